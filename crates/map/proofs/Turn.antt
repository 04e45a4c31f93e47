-- One turn of a walk over the segments of a map: what a word gives, and what is left behind it. Assumes nothing.
use Rattle.std.proofs.Common.{◌≡◌, ℕ, ◌+◌, ◌/◌, ◌%◌, ◌<◌, ◌≤◌, true, List, [], ◌∷◌, length, drop, get_or, nat_eq, ap, ◌∙◌, arith}
use Rattle.manager.specs.Map.{tiled, decode}
use Rattle.manager.proofs.Laws.Map.{Here, walk_step, walk_end, next_here, size_of_lem, held_of}
use Rattle.map.specs.Walk.{placed}

module _ (ws : List ℕ) (i : ℕ) (within : i ≤ length ws) (whole : tiled (drop i ws) ≡ true) where
  here : Here ws i
  unfolding tiled
  here = record { within = within; ok = whole }

  pub none_left : length ws ≤ i → placed i (decode (drop i ws)) ≡ []
  unfolding placed
  none_left l = ap (placed i) (walk_end ws i here l)

  module _ (l : i < length ws) where
    abbrev next : ℕ
    next = i + get_or ws i 0 / 2

    pub next_within : next ≤ length ws
    next_within = (next_here ws i here l).within

    pub next_whole : tiled (drop next ws) ≡ true
    unfolding tiled
    next_whole = (next_here ws i here l).ok

    pub first_left : placed i (decode (drop i ws)) ≡ record { at = i; pages = get_or ws i 0 / 2; held = nat_eq (get_or ws i 0 % 2) 1 } ∷ placed next (decode (drop next ws))
    unfolding placed
    first_left = ap (placed i) (walk_step ws i here l).says ∙ rw (size_of_lem (get_or ws i 0), held_of (get_or ws i 0))

    pub fewer_left : length (placed next (decode (drop next ws))) < length (placed i (decode (drop i ws)))
    fewer_left = rw first_left (omega arith)

pub ruleset walking = (none_left, next_within, next_whole, first_left, fewer_left)

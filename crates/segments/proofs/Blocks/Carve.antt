-- The words of a block that is cut. All but the first are 0; the high half gets its first word and is free, and the low half, of which again
-- all words but the first are 0, is cut on, until it has the pages asked for or fewer. Assumes nothing.
use Prim.Native.Nat.{ℕ, zero, suc, ◌+◌, ◌-◌, ◌*◌, ◌/◌, ◌^◌, ◌≤◌, ◌<◌}
use mathlib.Core.Path.{◌≡◌, refl, sym, ap, ◌∙◌}
use mathlib.Core.Bool.{true}
use mathlib.Core.List.{List, [], ◌∷◌, ◌++◌, append-nil}
use native.Mathlib.Omega.{arith}
use native.Mathlib.Nat.{add-zero}
use native.Mathlib.Numerals.{sub-one}
use lib.ListN.{length, get_or, set, take, drop, replicate, length-replicate, replicate-append-replicate}
use lib.Seq.{set_at, take_at, drop_at}
use borrow.Author.Tests.{le-leb, lt-leb}
use Rattle.arith.specs.Power.{level, is_power}
use Rattle.arith.proofs.Laws.Power.{double, level_power, is_power_lem, power_is, power_some}
use Rattle.manager.specs.Map.{free, held, draw}
use Rattle.manager.specs.Halves.{carve}
use Rattle.manager.proofs.Laws.Map.{draw_append, length_draw}
use Rattle.manager.proofs.Laws.Halves.Take.{carve_total, carve_step}

-- ---- the segments

carve_whole : (j k b : ℕ) → b ≤ k → carve j k b ≡ held b ∷ []
unfolding carve
carve_whole zero k b l = refl
carve_whole (suc j) k b l = rw (le-leb b k l)

-- a power of two that is not 1, and its half
record Double (n h : ℕ) : Type 0 where
  power : is_power h ≡ true
  twice : n ≡ h + h
  up : level n ≡ suc (level h)

doubled : (n : ℕ) → is_power n ≡ true → 2 ≤ n → Double n (n / 2)
doubled n e l = go (level n) refl
  where
    go : (j : ℕ) → level n ≡ j → Double n (n / 2)
    go zero f = absurd (let x : n ≡ 2 ^ 0 = power_is n e ∙ ap (λ (i : ℕ). 2 ^ i) f in omega arith)
    go (suc j) f =
        let x : n ≡ 2 ^ suc j = power_is n e ∙ ap (λ (i : ℕ). 2 ^ i) f in
        let h : n / 2 ≡ 2 ^ j = omega (arith, double j) in
        record {
          power = rw h (is_power_lem j);
          twice = omega (arith, double j);
          up = f ∙ rw h (ap suc (sym (level_power j)));
        }

carve_half : (n k : ℕ) → is_power n ≡ true → 2 ≤ n → k < n → carve (level n) k n ≡ carve (level (n / 2)) k (n / 2) ++ (free (n / 2) ∷ [])
carve_half n k e o l =
    let d = doubled n e o in
    let h : n / 2 ≡ 2 ^ level (n / 2) = power_is (n / 2) d.power in
    let x : n ≡ 2 ^ suc (level (n / 2)) = power_is n e ∙ ap (λ (i : ℕ). 2 ^ i) d.up in
    rw d.up (go (level (n / 2)) x h)
  where
    go : (j : ℕ) → n ≡ 2 ^ suc j → n / 2 ≡ 2 ^ j → carve (suc j) k n ≡ carve j k (n / 2) ++ (free (n / 2) ∷ [])
    go j x h = rw (h, x) (carve_step j k ∙ rw (lt-leb (2 ^ suc j) k (omega arith)))

-- ---- the words

blank_is : (ws : List ℕ) → 1 ≤ length ws → drop 1 ws ≡ replicate (length ws - 1) 0 → ws ≡ get_or ws 0 0 ∷ replicate (length ws - 1) 0
blank_is [] o e = absurd (omega arith)
blank_is (w ∷ ws) o e = ap (λ (t : List ℕ). w ∷ t) e

set_whole : (w n : ℕ) → 1 ≤ n → set (w ∷ replicate (n - 1) 0) 0 (n * 2 + 1) ≡ draw (held n ∷ [])
unfolding draw
set_whole w zero o = absurd (omega arith)
set_whole w (suc n) o = rw (sub-one, append-nil (replicate {A = ℕ} n 0))

set_cut : (w n h : ℕ) → 1 ≤ h → n ≡ h + h → set (w ∷ replicate (n - 1) 0) h (h * 2) ≡ (w ∷ replicate (h - 1) 0) ++ draw (free h ∷ [])
unfolding draw
set_cut w n zero o e = absurd (omega arith)
set_cut w n (suc h) o e =
    let x : n - 1 ≡ h + suc h = omega arith in
    rw (
      x,
      ← replicate-append-replicate {A = ℕ} h (suc h) 0,
      set_at (replicate h 0) 0 (replicate h 0) (suc h * 2) h (length-replicate h 0),
      sub-one,
      add-zero (suc h * 2),
      append-nil (replicate {A = ℕ} h 0),
    )

-- ---- A BLOCK THAT IS CUT FOR k PAGES

pub record Blank (ws : List ℕ) (k : ℕ) : Type 0 where
  pub power : is_power (length ws) ≡ true
  pub zeros : drop 1 ws ≡ replicate (length ws - 1) 0
  pub some : 1 ≤ k

module _ {ws : List ℕ} {k : ℕ} (b : Blank ws k) where
  pub has_pages : 1 ≤ length ws
  has_pages = power_some (length ws) b.power

  -- it is small enough
  pub carve_last : length ws ≤ k → set ws 0 (length ws * 2 + 1) ≡ draw (carve (level (length ws)) k (length ws))
  carve_last l =
      ap (λ (u : List ℕ). set u 0 (length ws * 2 + 1)) (blank_is ws has_pages b.zeros)
      ∙ set_whole (get_or ws 0 0) (length ws) has_pages
      ∙ ap draw (sym (carve_whole (level (length ws)) k (length ws) l))

  -- it is cut in two: the low half, which goes on, and the block once that is cut
  module _ (l : k < length ws) where
    abbrev half : ℕ
    half = length ws / 2

    abbrev stored : List ℕ
    stored = set ws half (half * 2)

    -- the words that are lent: from page 0 to the half
    abbrev part : List ℕ
    part = take (half - 0) stored

    abbrev low : List ℕ
    low = get_or ws 0 0 ∷ replicate (half - 1) 0

    from_start : half - 0 ≡ half
    from_start = omega arith

    big : 2 ≤ length ws
    big = omega (arith, b.some)

    low_words : length low ≡ half
    low_words = simp length-replicate (omega (arith, big))

    stored_is : stored ≡ low ++ draw (free half ∷ [])
    stored_is =
        ap (λ (u : List ℕ). set u half (half * 2)) (blank_is ws has_pages b.zeros)
        ∙ set_cut (get_or ws 0 0) (length ws) half (omega (arith, big)) (doubled (length ws) b.power big).twice

    part_is : part ≡ low
    part_is = rw from_start (ap (take half) stored_is ∙ take_at low (draw (free half ∷ [])) half low_words)

    high_is : drop (half - 0) stored ≡ draw (free half ∷ [])
    high_is = rw from_start (ap (drop half) stored_is ∙ drop_at low (draw (free half ∷ [])) half low_words)

    pub part_long : length part ≡ half
    part_long = ap length part_is ∙ low_words

    pub part_blank : Blank part k
    part_blank =
        record {
          power = rw part_long (doubled (length ws) b.power big).power;
          zeros = rw part_long (ap (drop 1) part_is);
          some = b.some;
        }

    module _ (out : List ℕ) (x : out ≡ draw (carve (level (length part)) k (length part))) where
      pub carve_on : out ++ drop (half - 0) stored ≡ draw (carve (level (length ws)) k (length ws))
      carve_on =
          let y : out ≡ draw (carve (level half) k half) = rw part_long at x in
          rw (y, high_is)
          (sym (draw_append (carve (level half) k half) (free half ∷ [])) ∙ ap draw (sym (carve_half (length ws) k b.power big l)))

      pub carve_long : length (out ++ drop (half - 0) stored) ≡ length ws
      carve_long =
          ap length carve_on
          ∙ length_draw (carve (level (length ws)) k (length ws))
          ∙ carve_total (level (length ws)) k (length ws)

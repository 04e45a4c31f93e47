-- A return by halves. Where the first word says that the block is held whole, it is free from now on. Else the block is cut: its two halves
-- stand side by side in the words, each a sound map of its own; the half that has the page is lent and released, and then the two are put
-- together. Assumes nothing.
use Prim.Native.Nat.{ℕ, suc, ◌+◌, ◌-◌, ◌*◌, ◌/◌, ◌%◌, ◌^◌, ◌≤◌, ◌<◌}
use mathlib.Core.Path.{◌≡◌, refl, sym, ap, ◌∙◌}
use mathlib.Core.Logic.{◌⊎◌, inl, inr}
use mathlib.Core.Bool.{true}
use mathlib.Core.List.{List, [], ◌∷◌, ◌++◌, append-nil}
use native.Mathlib.Omega.{arith}
use lib.ListN.{length, get_or, set, take, drop, length-append, drop_of_length-le}
use lib.Seq.{take_at, drop_at, take_all}
use Rattle.arith.specs.Power.{level}
use Rattle.arith.proofs.Laws.Power.{some_power, double, level_power}
use Rattle.manager.specs.Map.{Segment, free, held, words_of, draw, decode, tiled, total}
use Rattle.manager.specs.Kind.{held_from}
use Rattle.segments.specs.MapWords.{IsHeldAt}
use Rattle.manager.specs.Halves.{join, release_block, halves}
use Rattle.manager.proofs.Laws.Map.{sound_tiled, sound_proper, sound_drawn, redraw, reread, tiled_drawn, total_decoded, draw_append, length_draw}
use Rattle.manager.proofs.Laws.Map.{walk_start, walk_end, next_here, says_held}
use Rattle.manager.proofs.Laws.Shift.{held_shift}
use Rattle.manager.proofs.Laws.Halves.Cut.{Halved, one, two, halved_sized, halved_total, proper_of, proper_halved, total_one}
use Rattle.manager.proofs.Laws.Halves.Release.{held_half, release_one, release_low, release_high, release_halved}
use Rattle.manager.proofs.Laws.Halves.Shift.{release_shift}
use Rattle.segments.proofs.Words.{word_at, set_mark}

-- ---- a block that is held whole, by its first word

module _ (ws : List ℕ) (ok : tiled ws ≡ true) where
  held_words : (n : ℕ) → decode ws ≡ held n ∷ [] → ws ≡ words_of n 1 ++ []
  unfolding draw
  held_words n e = sym (redraw ws ok) ∙ ap draw e

  held_first : (n : ℕ) → 1 ≤ n → decode ws ≡ held n ∷ [] → get_or ws 0 0 ≡ length ws * 2 + 1
  held_first n o e =
      let l : length ws ≡ n = sym (total_decoded ws ok) ∙ ap total e ∙ total_one (held n) in
      word_at [] [] ws n 1 0 (held_words n e) refl o ∙ rw l

  first_held_lem : 1 ≤ length ws → get_or ws 0 0 ≡ length ws * 2 + 1 → decode ws ≡ held (length ws) ∷ []
  first_held_lem o e =
      let h = walk_start ws ok in
      let p : get_or ws 0 0 / 2 ≡ length ws = omega arith in
      let q : get_or ws 0 0 % 2 ≡ 1 = omega arith in
      says_held ws 0 h (omega arith) (λ z. omega arith)
      ∙ ap (λ (s : List Segment). held (get_or ws 0 0 / 2) ∷ s) (walk_end ws (0 + get_or ws 0 0 / 2) (next_here ws 0 h (omega arith)) (omega arith))
      ∙ ap (λ (k : ℕ). held k ∷ []) p

  free_whole : (j p : ℕ) → 1 ≤ length ws → get_or ws 0 0 ≡ length ws * 2 + 1 → set ws 0 (length ws * 2) ≡ draw (release_block j p 0 (decode ws))
  unfolding draw
  free_whole j p o e =
      let n = length ws in
      let d = first_held_lem o e in
      let v : n * 2 ≡ n * 2 + 0 = omega arith in
      let y : release_block j p 0 (decode ws) ≡ free n ∷ [] = ap (release_block j p 0) d ∙ release_one j p 0 (held n) in
      ap (λ (u : List ℕ). set u 0 (n * 2)) (held_words n d) ∙ rw v (set_mark n 1 0 [] o) ∙ sym (ap draw y)

-- ---- two halves of 2^j pages

module _ (j : ℕ) (a b : List Segment) (y : Halved j a) (z : Halved j b) (ws : List ℕ) (x : ws ≡ draw a ++ draw b) where
  low_long : length (draw a) ≡ 2 ^ j
  low_long = length_draw a ∙ halved_total y

  high_long : length (draw b) ≡ 2 ^ j
  high_long = length_draw b ∙ halved_total z

  both_long : length ws ≡ 2 ^ j + 2 ^ j
  both_long = rw x (simp length-append (omega (arith, low_long, high_long)))

  take_low : take (2 ^ j) ws ≡ draw a
  take_low = ap (take (2 ^ j)) x ∙ take_at (draw a) (draw b) (2 ^ j) low_long

  drop_high : drop (2 ^ j) ws ≡ draw b
  drop_high = ap (drop (2 ^ j)) x ∙ drop_at (draw a) (draw b) (2 ^ j) low_long

-- the segments of a block that is cut
record Cut (ws : List ℕ) : Type 0 where
  j : ℕ
  low : List Segment
  high : List Segment
  low_halved : Halved j low
  high_halved : Halved j high
  says : decode ws ≡ low ++ high

none_held : (p n : ℕ) → 1 ≤ held_from p 0 (free n ∷ []) → ⊥
unfolding held_from
none_held p n h = omega arith

-- ---- WHAT IS RELEASED, WHAT IS LENT FOR IT, AND WHAT IS BACK

-- the half of it that has the page, as its own page q
pub record Lent (ws part : List ℕ) (q : ℕ) : Type 0 where
  pub holds : IsHeldAt halves.proper q part
  pub long : length part ≡ length ws / 2

-- the map with that half released, before the two are put together
pub record Freed (p : ℕ) (ws out : List ℕ) : Type 0 where
  pub long : length out ≡ length ws
  pub low : tiled (take (length ws / 2) out) ≡ true
  pub high : tiled (drop (length ws / 2) out) ≡ true
  pub joined : draw (join (decode (take (length ws / 2) out)) (decode (drop (length ws / 2) out)))
      ≡ draw (release_block (level (length ws)) p 0 (decode ws))

-- a half is a sound map of its own, and what its release gives
module _ {j : ℕ} {s : List Segment} (y : Halved j s) (part : List ℕ) (q : ℕ) (x : part ≡ draw s) where
  lent_half : (ws : List ℕ) → length ws ≤ 16384 → length ws / 2 ≡ 2 ^ j → 1 ≤ held_from q 0 s → Lent ws part q
  lent_half ws few e h =
      let l : length part ≡ length ws / 2 = ap length x ∙ length_draw s ∙ halved_total y ∙ sym e in
      record {
        holds =
            record {
              sound = rw x (sound_drawn halves.proper s (halved_sized y) (proper_of y));
              short = omega arith;
              held = rw (x, reread s (halved_sized y)) h;
            };
        long = l;
      }

  half_out : (out : List ℕ) → out ≡ draw (release_block (level (length part)) q 0 (decode part)) → out ≡ draw (release_block j q 0 s)
  half_out out e =
      let l : level (length (draw s)) ≡ j = ap level (length_draw s ∙ halved_total y) ∙ level_power j in
      e ∙ rw (x, l, reread s (halved_sized y))

module _ {p : ℕ} {ws : List ℕ} (h : IsHeldAt halves.proper p ws) where
  tiles : tiled ws ≡ true
  tiles = sound_tiled halves.proper ws h.sound

  built : Halved (level (total (decode ws))) (decode ws)
  built = proper_halved (decode ws) (sound_proper halves.proper ws h.sound)

  pub some_pages : 1 ≤ length ws
  some_pages = omega (arith, total_decoded ws tiles, halved_total built, some_power (level (total (decode ws))))

  -- ---- it is held whole

  pub released : get_or ws 0 0 ≡ length ws * 2 + 1 → set ws 0 (length ws * 2) ≡ draw (release_block (level (length ws)) p 0 (decode ws))
  released e = free_whole ws tiles (level (length ws)) p some_pages e

  -- ---- it is cut

  module _ (ne : get_or ws 0 0 ≡ length ws * 2 + 1 → ⊥) where
    cut_of : {j : ℕ} {s : List Segment} → Halved j s → decode ws ≡ s → Cut ws
    cut_of (one j (free n) e) x = absurd (none_held p n (rw x at h.held))
    cut_of (one j (held n) e) x = absurd (ne (held_first ws tiles n (omega (arith, e, some_power j)) x))
    cut_of (two j a b y z f) x = record { j = j; low = a; high = b; low_halved = y; high_halved = z; says = x }

    c : Cut ws
    c = cut_of built refl

    abbrev j : ℕ
    j = c.j

    abbrev a : List Segment
    a = c.low

    abbrev b : List Segment
    b = c.high

    abbrev half : ℕ
    half = length ws / 2

    words : ws ≡ draw a ++ draw b
    words = sym (redraw ws tiles) ∙ ap draw c.says ∙ draw_append a b

    long : length ws ≡ 2 ^ j + 2 ^ j
    long = both_long j a b c.low_halved c.high_halved ws words

    half_is : half ≡ 2 ^ j
    half_is = omega (arith, long)

    low_is : take half ws ≡ draw a
    low_is = rw half_is (take_low j a b c.low_halved c.high_halved ws words)

    high_is : drop half ws ≡ draw b
    high_is = rw half_is (drop_high j a b c.low_halved c.high_halved ws words)

    pub twice : (1 ≤ half) × (length ws ≡ half + half)
    twice = (omega (arith, half_is, some_power j), omega (arith, half_is, long))

    side : ((p < 0 + 2 ^ j) × (1 ≤ held_from p 0 a)) ⊎ ((0 + 2 ^ j ≤ p) × (1 ≤ held_from p (0 + 2 ^ j) b))
    side = held_half j p 0 a b c.low_halved (rw c.says at h.held)

    freed : (d e : List Segment) → Halved j d → Halved j e → join d e ≡ release_block (suc j) p 0 (a ++ b)
        → (out : List ℕ) → out ≡ draw d ++ draw e → Freed p ws out
    freed d e u v q out x =
        let l : take half out ≡ draw d = rw half_is (take_low j d e u v out x) in
        let m : drop half out ≡ draw e = rw half_is (drop_high j d e u v out x) in
        let i : level (length ws) ≡ suc j = ap level (long ∙ sym (double j)) ∙ level_power (suc j) in
        let f : release_block (level (length ws)) p 0 (decode ws) ≡ release_block (suc j) p 0 (a ++ b) = rw (i, c.says) in
        record {
          long = both_long j d e u v out x ∙ sym long;
          low = rw l (tiled_drawn d (halved_sized u));
          high = rw m (tiled_drawn e (halved_sized v));
          joined = rw (l, m, reread d (halved_sized u), reread e (halved_sized v), f) (ap draw q);
        }

    -- the low half is lent
    module _ (l : p < half) where
      low_held : 1 ≤ held_from p 0 a
      low_held = elim side [ inl u ↦ u.1 | inr u ↦ absurd (omega (arith, u.0, half_is)) ]

      pub lent_low : Lent ws (take half ws) p
      lent_low = lent_half c.low_halved (take half ws) p low_is ws h.short half_is low_held

      pub freed_low : (out : List ℕ) → out ≡ draw (release_block (level (length (take half ws))) p 0 (decode (take half ws)))
          → Freed p ws (out ++ drop half ws)
      freed_low out e =
          let x : out ≡ draw (release_block j p 0 a) = half_out c.low_halved (take half ws) p low_is out e in
          freed (release_block j p 0 a) b (release_halved p 0 c.low_halved low_held) c.high_halved
          (sym (release_low j p 0 a b c.low_halved c.high_halved (omega (arith, half_is))))
          (out ++ drop half ws) (rw (x, high_is))

    -- the high half is lent: its pages are counted from its own first one
    module _ (l : half ≤ p) where
      abbrev part : List ℕ
      part = take (length ws - half) (drop half ws)

      high_all : length (draw b) ≤ length ws - half
      high_all = omega (arith, high_long j a b c.low_halved c.high_halved ws words, long)

      part_is : part ≡ draw b
      part_is = rw high_is (take_all (length ws - half) (draw b) high_all)

      rest_is : drop (length ws - half) (drop half ws) ≡ []
      rest_is = rw high_is (drop_of_length-le (draw b) high_all)

      page : 2 ^ j + (p - half) ≡ p
      page = omega (arith, half_is)

      first : 2 ^ j + 0 ≡ 0 + 2 ^ j
      first = omega arith

      high_held : 1 ≤ held_from (p - half) 0 b
      high_held =
          let x : held_from p (0 + 2 ^ j) b ≡ held_from (p - half) 0 b = rw (page, first) at (held_shift (2 ^ j) (p - half) 0 b) in
          elim side [ inl u ↦ absurd (omega (arith, u.0, half_is)) | inr u ↦ omega (arith, u.1) ]

      pub lent_high : Lent ws part (p - half)
      lent_high = lent_half c.high_halved part (p - half) part_is ws h.short half_is high_held

      pub freed_high : (out : List ℕ) → out ≡ draw (release_block (level (length part)) (p - half) 0 (decode part))
          → Freed p ws (take half ws ++ (out ++ drop (length ws - half) (drop half ws)))
      freed_high out e =
          let d = release_block j (p - half) 0 b in
          let x : out ≡ draw d = half_out c.high_halved part (p - half) part_is out e in
          let r : release_block j p (0 + 2 ^ j) b ≡ d = rw (page, first) at (release_shift (2 ^ j) j (p - half) 0 b) in
          freed a d c.low_halved (release_halved (p - half) 0 c.high_halved high_held)
          (sym (release_high j p 0 a b c.low_halved c.high_halved (omega (arith, half_is)) ∙ rw r))
          (take half ws ++ (out ++ drop (length ws - half) (drop half ws)))
          (rw (low_is, rest_is, x, append-nil (draw d)))

pub ruleset parting = (some_pages, released, twice, lent_low, lent_high, freed_low, freed_high)

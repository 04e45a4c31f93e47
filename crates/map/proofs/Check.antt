-- The check of a map's words, one by one: how many words of the segment that was begun are still due, and whether it is held (1).
-- Assumes nothing.
use Prim.Native.Nat.{ℕ, zero, suc, ◌+◌, ◌-◌, ◌/◌, ◌%◌, ◌≤◌, ◌<◌}
use mathlib.Core.Path.{◌≡◌, refl, sym, ap, ◌∙◌}
use mathlib.Core.Bool.{Bool, true, false, ◌&&◌, ◌||◌, and-false}
use mathlib.Core.List.{List, [], ◌∷◌}
use native.Mathlib.Numerals.{sub-one}
use native.Mathlib.Omega.{arith}
use borrow.Author.Tests.{eq-eqb, ne_eqb, le-leb, lt-leb}
use lib.Dec.{eqb}
use lib.ListN.{length, get_or, drop, drop_of_length-le}
use Rattle.manager.proofs.Laws.Lists.{rest_cons}
use Rattle.manager.proofs.Laws.Map.{decode_start, decode_skip, held_of}
use Rattle.manager.proofs.Laws.Apart.{apart_from, apart_is}
use Rattle.manager.specs.Map.{decode, tiled_from, tiled, sound_map}
use Rattle.manager.specs.Paged.{apart}

-- what the words from one on have to be, with `due` words of a segment that is held or not still to come: tiled, and no two free
-- segments adjoining
abbrev sound_from : ℕ → Bool → List ℕ → Bool
sound_from due before ws = tiled_from due ws && apart_from before (decode ws)

-- HOW FAR THE CHECK HAS COME: to word i
pub record Checking (ws : List ℕ) (r : Bool) (i due before : ℕ) : Type 0 where
  pub within : i ≤ length ws
  pub mark : before < 2
  pub rest : sound_from due (eqb before 1) (drop i ws) ≡ r

pub check_start : (ws : List ℕ) → Checking ws (sound_map apart ws) 0 0 1
unfolding sound_map tiled
check_start ws =
    record { within = omega arith; mark = omega arith; rest = ap (λ (b : Bool). tiled_from 0 ws && b) (sym (apart_is (decode ws))) }

one_held_lem : (m n : ℕ) → m < 2 → n < 2 → (m + n ≡ 0 → ⊥) → (eqb m 1 || eqb n 1) ≡ true
one_held_lem zero zero p q ne = absurd (ne refl)
one_held_lem zero (suc zero) p q ne = refl
one_held_lem zero (suc (suc n)) p q ne = absurd (omega arith)
one_held_lem (suc zero) n p q ne = refl
one_held_lem (suc (suc m)) n p q ne = absurd (omega arith)

none_held : (m n : ℕ) → m + n ≡ 0 → (eqb m 1 || eqb n 1) ≡ false
none_held m n e = rw (ne_eqb m 1 (λ k. omega arith), ne_eqb n 1 (λ k. omega arith))

-- a test between two that holds
and_yes : (a b c : Bool) → b ≡ true → (a && (b && c)) ≡ (a && c)
and_yes a b c e = rw e

-- one word, where a segment is due to start, and where words 0 are due
module _ (b w : ℕ) (ws : List ℕ) where
  first_small : w < 2 → sound_from 0 (eqb b 1) (w ∷ ws) ≡ false
  unfolding tiled_from
  first_small h = rw (lt-leb 2 w h)

  -- the words behind the first, and the first segment before those behind it
  first_is : 2 ≤ w → sound_from 0 (eqb b 1) (w ∷ ws)
      ≡ (tiled_from (w / 2 - 1) ws && ((eqb b 1 || eqb (w % 2) 1) && apart_from (eqb (w % 2) 1) (decode ws)))
  unfolding tiled_from apart_from
  first_is h = rw (le-leb 2 w h, decode_start w ws (omega arith), held_of w)

  first_free : 2 ≤ w → b + w % 2 ≡ 0 → sound_from 0 (eqb b 1) (w ∷ ws) ≡ false
  first_free h e = first_is h ∙ rw (none_held b (w % 2) e) (and-false (tiled_from (w / 2 - 1) ws))

  first_good : 2 ≤ w → b < 2 → (b + w % 2 ≡ 0 → ⊥) → sound_from 0 (eqb b 1) (w ∷ ws) ≡ sound_from (w / 2 - 1) (eqb (w % 2) 1) ws
  first_good h k e = first_is h ∙ and_yes (tiled_from (w / 2 - 1) ws) _ _ (one_held_lem b (w % 2) k (omega arith) e)

  due_bad : (due : ℕ) → (due ≡ 0 → ⊥) → (w ≡ 0 → ⊥) → sound_from due (eqb b 1) (w ∷ ws) ≡ false
  unfolding tiled_from
  due_bad zero h e = absurd (h refl)
  due_bad (suc due) h e = rw (ne_eqb w 0 e)

  due_good : (due : ℕ) → (due ≡ 0 → ⊥) → w ≡ 0 → sound_from due (eqb b 1) (w ∷ ws) ≡ sound_from (due - 1) (eqb b 1) ws
  unfolding tiled_from
  due_good zero h e = absurd (h refl)
  due_good (suc due) h e = rw (decode_skip w ws e, eq-eqb w 0 e, sub-one)

end : (due b : ℕ) → sound_from due (eqb b 1) [] ≡ eqb due 0
unfolding tiled_from decode apart_from
end zero b = refl
end (suc due) b = sym (ne_eqb (suc due) 0 (λ e. omega arith))

module _ (ws : List ℕ) (r : Bool) (i due b : ℕ) (v : Checking ws r i due b) where
  pub check_end : length ws ≤ i → eqb due 0 ≡ r
  check_end h = sym (ap (sound_from due (eqb b 1)) (drop_of_length-le ws h) ∙ end due b) ∙ v.rest

  module _ (h : i < length ws) where
    cut : sound_from due (eqb b 1) (get_or ws i 0 ∷ drop (i + 1) ws) ≡ r
    cut = rw (rest_cons ws i 0 h) at v.rest

    pub check_small : due ≡ 0 → get_or ws i 0 < 2 → false ≡ r
    check_small e k = sym (first_small b (get_or ws i 0) (drop (i + 1) ws) k) ∙ (rw e at cut)

    pub check_free : due ≡ 0 → 2 ≤ get_or ws i 0 → b + get_or ws i 0 % 2 ≡ 0 → false ≡ r
    check_free e k f = sym (first_free b (get_or ws i 0) (drop (i + 1) ws) k f) ∙ (rw e at cut)

    pub check_first : due ≡ 0 → 2 ≤ get_or ws i 0 → (b + get_or ws i 0 % 2 ≡ 0 → ⊥)
        → Checking ws r (i + 1) (get_or ws i 0 / 2 - 1) (get_or ws i 0 % 2)
    check_first e k f =
        record {
          within = omega arith;
          mark = omega arith;
          rest = sym (first_good b (get_or ws i 0) (drop (i + 1) ws) k v.mark f) ∙ (rw e at cut);
        }

    pub check_word : (due ≡ 0 → ⊥) → (get_or ws i 0 ≡ 0 → ⊥) → false ≡ r
    check_word e k = sym (due_bad b (get_or ws i 0) (drop (i + 1) ws) due e k) ∙ cut

    pub check_zero : (due ≡ 0 → ⊥) → get_or ws i 0 ≡ 0 → Checking ws r (i + 1) (due - 1) b
    check_zero e k =
        record { within = omega arith; mark = v.mark; rest = sym (due_good b (get_or ws i 0) (drop (i + 1) ws) due e k) ∙ cut }

pub ruleset checking = (check_start, check_end, check_small, check_free, check_first, check_word, check_zero)

-- Pages counted from elsewhere, in a map by halves: every page so many further on, and the map the same. Assumes nothing.
use Rattle.std.specs.Prelude.{Option, None, Some}
use Prim.Native.Nat.{ℕ, zero, suc, ◌+◌, ◌^◌}
use mathlib.Core.Path.{◌≡◌, refl}
use mathlib.Core.Bool.{Bool, true, false, cond}
use mathlib.Core.List.{List, [], ◌∷◌}
use native.Mathlib.Omega.{arith}
use lib.Dec.{eqb, ltb}
use borrow.Author.Tests.{ltb-true, ltb-false, lt-ltb, le-ltb}
use Rattle.manager.specs.Map.{Segment, free, held}
use Rattle.manager.specs.Kind.{on_place, allocate}
use Rattle.manager.specs.Halves.{low_of, high_of, smallest, lowest_free, place_block, occupy_block, release_block, halves}
use Rattle.manager.specs.declared.Need.{Need}
use Rattle.manager.proofs.Laws.Shift.{shifted, shift_at}

module _ (by : ℕ) where
  lowest_shift : (b at : ℕ) (s : List Segment) → lowest_free b (by + at) s ≡ shifted by (lowest_free b at s)
  unfolding lowest_free
  lowest_shift b at [] = refl
  lowest_shift b at (held n ∷ s) = let e : by + at + n ≡ by + (at + n) = omega arith in rw e (lowest_shift b (at + n) s)
  lowest_shift b at (free n ∷ s) = let e : by + at + n ≡ by + (at + n) = omega arith in rw e (go (eqb n b) (lowest_shift b (at + n) s))
    where
      go : (t : Bool) → lowest_free b (by + (at + n)) s ≡ shifted by (lowest_free b (at + n) s)
          → cond t (Some (by + at)) (lowest_free b (by + (at + n)) s) ≡ shifted by (cond t (Some at) (lowest_free b (at + n) s))
      go true h = refl
      go false h = h

  pub place_shift : (k at : ℕ) (s : List Segment) → place_block k (by + at) s ≡ shifted by (place_block k at s)
  unfolding place_block
  place_shift k at s = go (eqb (smallest k s) 0)
    where
      go : (t : Bool) → cond t None (lowest_free (smallest k s) (by + at) s) ≡ shifted by (cond t None (lowest_free (smallest k s) at s))
      go true = refl
      go false = lowest_shift (smallest k s) at s

  pub occupy_shift : (p k at : ℕ) (s : List Segment) → occupy_block (by + p) k (by + at) s ≡ occupy_block p k at s
  unfolding occupy_block
  occupy_shift p k at [] = refl
  occupy_shift p k at (held n ∷ s) = let e : by + at + n ≡ by + (at + n) = omega arith in rw (e, occupy_shift p k (at + n) s)
  occupy_shift p k at (free n ∷ s) = let e : by + at + n ≡ by + (at + n) = omega arith in rw (shift_at by at p, e, occupy_shift p k (at + n) s)

  pub take_shift : (w : Need) (at : ℕ) (s : List Segment) → allocate halves w (by + at) s ≡ allocate halves w at s
  take_shift w at s = rw (place_shift w.pages at s) (go (place_block w.pages at s))
    where
      go : (q : Option ℕ) → on_place (shifted by q) (λ p. occupy_block p w.pages (by + at) s) s ≡ on_place q (λ p. occupy_block p w.pages at s) s
      go (Some p) = occupy_shift p w.pages at s
      go None = refl

  shift_under : (p q : ℕ) → ltb (by + p) (by + q) ≡ ltb p q
  shift_under p q = go (ltb p q) refl
    where
      go : (t : Bool) → ltb p q ≡ t → ltb (by + p) (by + q) ≡ t
      go true e = lt-ltb (by + p) (by + q) (omega (arith, ltb-true p q e))
      go false e = le-ltb (by + p) (by + q) (omega (arith, ltb-false p q e))

  pub release_shift : (j p at : ℕ) (s : List Segment) → release_block j (by + p) (by + at) s ≡ release_block j p at s
  unfolding release_block
  release_shift zero p at s = refl
  release_shift (suc j) p at s =
      let e : by + at + 2 ^ j ≡ by + (at + 2 ^ j) = omega arith in
      rw (e, shift_under p (at + 2 ^ j), release_shift j p at (low_of (2 ^ j) s), release_shift j p (at + 2 ^ j) (high_of (2 ^ j) s))

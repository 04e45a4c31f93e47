-- Pages counted from elsewhere: a map that starts `by` pages further on has every page so many further on. So what the stores do by the
-- places of words in the map is what the rules say by the numbers of pages. Assumes nothing.
use Rattle.std.specs.Prelude.{Option, None, Some}
use Prim.Native.Nat.{ℕ, ◌+◌}
use mathlib.Core.Path.{◌≡◌, refl}
use mathlib.Core.Bool.{Bool, true, false}
use mathlib.Core.List.{List, [], ◌∷◌}
use native.Mathlib.Omega.{arith}
use lib.Dec.{eqb}
use borrow.Author.Tests.{eqb-true, eqb-false, eq-eqb, ne_eqb}
use Rattle.manager.specs.Map.{Segment, free, held}
use Rattle.manager.specs.Kind.{held_from}
use Rattle.manager.specs.Paged.{reach_from, change_from}

abbrev pub shifted : ℕ → Option ℕ → Option ℕ
shifted by (Some p) = Some (by + p)
shifted by None = None

module _ (by : ℕ) where
  shift_test : (at p : ℕ) (b : Bool) → eqb at p ≡ b → eqb (by + at) (by + p) ≡ b
  shift_test at p true e = eq-eqb (by + at) (by + p) (omega (arith, eqb-true at p e))
  shift_test at p false e = ne_eqb (by + at) (by + p) (λ q. eqb-false at p e (omega arith))

  pub shift_at : (at p : ℕ) → eqb (by + at) (by + p) ≡ eqb at p
  shift_at at p = shift_test at p (eqb at p) refl

  pub held_shift : (p at : ℕ) (s : List Segment) → held_from (by + p) (by + at) s ≡ held_from p at s
  unfolding held_from
  held_shift p at [] = refl
  held_shift p at (free n ∷ s) = let e : by + at + n ≡ by + (at + n) = omega arith in rw e (held_shift p (at + n) s)
  held_shift p at (held n ∷ s) = let e : by + at + n ≡ by + (at + n) = omega arith in rw (shift_at at p, e, held_shift p (at + n) s)

  pub reach_shift : (p at : ℕ) (s : List Segment) → reach_from (by + p) (by + at) s ≡ reach_from p at s
  unfolding reach_from
  reach_shift p at [] = refl
  reach_shift p at (free n ∷ s) = let e : by + at + n ≡ by + (at + n) = omega arith in rw e (reach_shift p (at + n) s)
  reach_shift p at (held n ∷ s) = let e : by + at + n ≡ by + (at + n) = omega arith in rw (shift_at at p, e, reach_shift p (at + n) s)

  pub change_shift : (p k at : ℕ) (s : List Segment) → change_from (by + p) k (by + at) s ≡ change_from p k at s
  unfolding change_from
  change_shift p k at [] = refl
  change_shift p k at (free n ∷ s) = let e : by + at + n ≡ by + (at + n) = omega arith in rw (e, change_shift p k (at + n) s)
  change_shift p k at (held n ∷ s) = let e : by + at + n ≡ by + (at + n) = omega arith in rw (shift_at at p, e, change_shift p k (at + n) s)

-- A test and its two cases. Assumes nothing.
use mathlib.Core.Path.{◌≡◌, refl}
use mathlib.Core.Bool.{Bool, true, false}
use Prim.Native.Nat.{ℕ, ◌≤◌, ◌<◌}
use lib.Dec.{leb, eqb}
use borrow.Author.Tests.{leb-true, leb-false, eqb-true, eqb-false}

-- what holds of both outcomes, each where the numbers say so, holds of the test
pub by_leb : (a b : ℕ) (Q : Bool → Type 0) → (a ≤ b → Q true) → (b < a → Q false) → Q (leb a b)
by_leb a b Q f g = go (leb a b) refl
  where
    go : (t : Bool) → leb a b ≡ t → Q t
    go true e = f (leb-true a b e)
    go false e = g (leb-false a b e)

pub by_eqb : (a b : ℕ) (Q : Bool → Type 0) → (a ≡ b → Q true) → (¬ (a ≡ b) → Q false) → Q (eqb a b)
by_eqb a b Q f g = go (eqb a b) refl
  where
    go : (t : Bool) → eqb a b ≡ t → Q t
    go true e = f (eqb-true a b e)
    go false e = g (eqb-false a b e)

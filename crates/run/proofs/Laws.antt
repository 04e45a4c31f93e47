-- A line's number is found by counting. Assumes nothing.
use mathlib.Core.Path.{◌≡◌, refl, sym}
use Prim.Native.Nat.{ℕ, suc, ◌+◌}
use mathlib.Core.List.{List, ◌∷◌}
use mathlib.Core.Bool.{Bool, true, false, cond}
use native.Mathlib.Omega.{arith}
use lib.Dec.{eqb}
use Rattle.std.specs.List.{count_by}
use Rattle.std.proofs.lemmas.List.Recursion.{is_count_by}
use Rattle.run.specs.Output.{newlines}

next : (b : ℕ) (bs : List ℕ) → newlines (b ∷ bs) ≡ cond (eqb b 10) (1 + newlines bs) (newlines bs)
unfolding newlines
next b bs = go (eqb b 10)
  where
    go : (t : Bool) → cond t (suc (newlines bs)) (newlines bs) ≡ cond t (1 + newlines bs) (newlines bs)
    go true = omega arith
    go false = refl

pub newlines_count : (bs : List ℕ) → count_by (λ b. eqb b 10) bs ≡ newlines bs
unfolding newlines
newlines_count bs = sym (is_count_by newlines (λ b. eqb b 10) refl next bs)

-- A test that computes at every number below n. Assumes nothing.
use mathlib.Core.Path.{◌≡◌, refl, sym, subst}
use Prim.Native.Nat.{ℕ, zero, suc, ◌<◌}
use mathlib.Core.Bool.{Bool, true, false, cond, true≢false}
use native.Mathlib.Omega.{arith}
use native.Mathlib.Decide.{dec_lt}

unfoldable pub all_upto : ℕ → (ℕ → Bool) → Bool
all_upto zero f = true
all_upto (suc n) f = cond (f n) (all_upto n f) false

pub both : (t u : Bool) → cond t u false ≡ true → (t ≡ true) × (u ≡ true)
both true u h = (refl, h)
both false u h = absurd (true≢false (sym h))

pub all_upto_lem : (n : ℕ) (f : ℕ → Bool) → all_upto n f ≡ true → (k : ℕ) → k < n → f k ≡ true
unfolding all_upto
all_upto_lem zero f h k l = absurd (omega arith)
all_upto_lem (suc n) f h k l = go (dec_lt k n) (both (f n) (all_upto n f) h) (λ u m. all_upto_lem n f u k m)
  where
    go : Dec (k < n) → (f n ≡ true) × (all_upto n f ≡ true) → (all_upto n f ≡ true → k < n → f k ≡ true) → f k ≡ true
    go (yes m) b r = r b.1 m
    go (no m) b r = let e : n ≡ k = omega arith in subst (λ (j : ℕ). f j ≡ true) e b.0

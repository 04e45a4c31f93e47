-- Two areas that share no byte, by their words. Assumes nothing.
use mathlib.Core.Logic.{◌⊎◌, inl, inr}
use Prim.Native.Nat.{ℕ, ◌+◌, ◌≤◌}
use native.Mathlib.Omega.{arith}
use Rattle.manager.specs.declared.Area.{Area}
use Rattle.manager.proofs.Laws.Areas.{Clear}
use Rattle.trace.proofs.Invariant.{Inside}

-- no word lies wholly inside both
pub clear_words : (a b : Area) (w : ℕ) → Clear a b → Inside a.start a.length w → ¬ Inside b.start b.length w
clear_words a b w (inl h) i j = omega (arith, i.high, j.low)
clear_words a b w (inr h) i j = omega (arith, i.low, j.high)

-- nor does a part of one meet a part of the other
pub clear_parts : (a b : Area) (s n t k : ℕ) → Clear a b → a.start ≤ s → s + n ≤ a.start + a.length → b.start ≤ t → t + k ≤ b.start + b.length
    → (s + n ≤ t) ⊎ (t + k ≤ s)
clear_parts a b s n t k (inl h) l u l' u' = inl (omega arith)
clear_parts a b s n t k (inr h) l u l' u' = inr (omega arith)

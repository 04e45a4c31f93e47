-- The fill is the fraction, rounded once, at both ends too: 0 and 1 are what the division of none and of all would give. Assumes nothing.
use Prim.Native.Nat.{ℕ, ◌^◌, ◌≤◌, ◌<◌}
use mathlib.Core.Path.{◌≡◌, sym, ap, ◌∙◌}
use mathlib.Core.Bool.{Bool, true, false, cond}
use native.Mathlib.Nat.{le_trans, mul_comm, zero-mul, zero-lt-suc}
use lib.Dec.{T, eqb, eqb→eq}
use lib.IntN.{pos}
use lib.Ieee.{Float, binary64, round, div, of_int}
use lib.Ieee.Scale.{round_same}
use Rattle.gauge.specs.Gauge.{fill_of}
use Rattle.gauge.specs.Gauge as gauge
use Rattle.gauge.proofs.Laws.Fills.{zero_is, one_is, fraction_is}

one_rounded : gauge.one ≡ round binary64 false 1 1
unfolding round
one_rounded = one_is

zero_rounded : gauge.zero ≡ round binary64 false 0 1
unfolding round
zero_rounded = zero_is

all_rounded : (n : ℕ) → 0 < n → gauge.one ≡ round binary64 false n n
all_rounded n P = one_rounded ∙ round_same binary64 false 1 1 n n (zero-lt-suc 0) P (mul_comm 1 n)

none_rounded : (n : ℕ) → 0 < n → gauge.zero ≡ round binary64 false 0 n
none_rounded n P = zero_rounded ∙ round_same binary64 false 0 1 0 n (zero-lt-suc 0) P (zero-mul n)

pub fill_rounded : (held total : ℕ) → 0 < total → held ≤ total → total ≤ 2 ^ 53 → fill_of held total ≡ round binary64 false held total
fill_rounded held total P k l =
    pick (eqb held 0) (eqb held total) (eqb→eq held 0) (eqb→eq held total)
    (div binary64 (of_int binary64 (pos held)) (of_int binary64 (pos total)))
    (fraction_is binary64 held total P (le_trans k l) l)
  where
    pick : (b c : Bool) → (T b → held ≡ 0) → (T c → held ≡ total) → (x : Float) → x ≡ round binary64 false held total
        → cond b gauge.zero (cond c gauge.one x) ≡ round binary64 false held total
    pick true c none all x e = none_rounded total P ∙ ap (λ (h : ℕ). round binary64 false h total) (sym (none tt))
    pick false true none all x e = all_rounded total P ∙ ap (λ (h : ℕ). round binary64 false h total) (sym (all tt))
    pick false false none all x e = e

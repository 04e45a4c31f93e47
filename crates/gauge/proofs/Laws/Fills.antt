-- The fills that a reading makes are numbers from 0 to 1 that a float of 64 bits holds: `fill_of`, and `smoothed_by` of two of them.
-- A kept fill that passes `is_fill` is such a number, or -0, which is smoothed as 0 is. Assumes nothing.
use Prim.Native.Nat.{ℕ, zero, suc, ◌*◌, ◌^◌, ◌≤◌, ◌<◌, zero-le, suc-le-suc}
use mathlib.Core.Path.{◌≡◌, refl, sym, ap, ◌∙◌, subst}
use mathlib.Core.Logic.{◌⊎◌, inl, inr}
use mathlib.Core.Bool.{Bool, true, false, not, cond, ◌||◌, true≢false}
use native.Mathlib.Omega.{arith}
use native.Mathlib.Nat.{le_refl, le_trans, mul-pos, mul-le-mul_right, lt_irrefl, zero-lt-suc}
use borrow.Author.Tests.{ltb-false, not-false}
use lib.IntN.{ℤ, pos, negsuc}
use lib.Dec.{T, ltb, eqb, eqb→eq}
use lib.Ieee.{Float, nan, inf, fin, Format, binary64, prec, up, down, of_bits, round, add, sub, mul, div, of_int, le, fits, is_nan}
use lib.Ieee.Fits.{down_pos, up_pos, and_i, and_l, and_r}
use lib.Ieee.Exact.{HasValue}
use lib.Ieee.Back.{round_whole}
use lib.Ieee.Positive.{first_pos}
use lib.Ieee.Scale.{round_same}
use Rattle.manager.specs.Status.{number_of}
use Rattle.manager.proofs.Laws.Appended.{or_first, or_second}
use Rattle.gauge.specs.Gauge.{fill_of, smoothed_by, is_fill, wrong_limits, wrong, refused, taken, moved, reading}
use Rattle.gauge.specs.Gauge as gauge
use Rattle.gauge.specs.declared.Alarm.{Alarm}
use Rattle.gauge.specs.declared.Gauge.{Gauge}
use Rattle.gauge.specs.declared.Reading.{Reading}
use Rattle.gauge.proofs.Laws.Smoothing.{Fill, fill_of_lem, one_fits, fill_fits, zero_le_fill, fill_le_one, round_fill, smooth, smooth_fill, smooth_zeros}

-- ---- the numbers by their bits
pub zero_is : gauge.zero ≡ fin false 0 (pos 0)
unfolding of_bits
zero_is = refl

pub one_is : gauge.one ≡ fin false 1 (pos 0)
unfolding of_bits
one_is = refl

pub quarter_is : gauge.quarter ≡ fin false 1 (negsuc 1)
unfolding of_bits
quarter_is = refl

zero_fits : T (fits binary64 (fin false 0 (pos 0)))
unfolding fits
zero_fits = tt

pub zero_fill : Fill binary64 gauge.zero
zero_fill = subst (λ (x : Float). Fill binary64 x) (sym zero_is) (zero_fits, zero-le)

pub one_fill : Fill binary64 gauge.one
one_fill = subst (λ (x : Float). Fill binary64 x) (sym one_is) (one_fits binary64, le_refl 1)

-- ---- two whole numbers that the format counts divide to their fraction, rounded once
div_is : (f : Format) (m : ℕ) (e : ℤ) (n : ℕ) (d : ℤ)
    → div f (fin false m e) (fin false n d) ≡ cond (eqb n 0) (cond (eqb m 0) nan (inf false)) (round f false (m * up e * down d) (n * up d * down e))
unfolding div
div_is f m e n d = refl

ratio : (x d h y b t : ℕ) → x * 1 ≡ h * d → y * 1 ≡ t * b → x * b * t ≡ h * (y * d)
ratio x d h y b t p q =
    let u : x * 1 * (b * t) ≡ h * d * (b * t) = ap (λ (z : ℕ). z * (b * t)) p in
    let v : y * 1 * (h * d) ≡ t * b * (h * d) = ap (λ (z : ℕ). z * (h * d)) q in
    omega arith

div_values : (f : Format) (x y : Float) (h t : ℕ) → HasValue x false h 1 → HasValue y false t 1 → 0 < t → div f x y ≡ round f false h t
div_values f nan y h t v w P = elim v [ ]
div_values f (inf _) y h t v w P = elim v [ ]
div_values f (fin false m e) nan h t v w P = elim w [ ]
div_values f (fin false m e) (inf _) h t v w P = elim w [ ]
div_values f (fin true m e) y h t v w P = absurd (true≢false v.0)
div_values f (fin false m e) (fin true n d) h t v w P = absurd (true≢false w.0)
div_values f (fin false m e) (fin false n d) h t v w P = div_is f m e n d ∙ go (eqb n 0) (eqb→eq n 0)
  where
    above : 0 < n * up d
    above = first_pos (n * up d) 1 (subst (λ (z : ℕ). 0 < z) (sym w.1) (mul-pos P (down_pos d)))

    go : (b : Bool) → (T b → n ≡ 0)
        → cond b (cond (eqb m 0) nan (inf false)) (round f false (m * up e * down d) (n * up d * down e)) ≡ round f false h t
    go true z = absurd (lt_irrefl 0 (subst (λ (i : ℕ). 0 < i) (z tt) (first_pos n (up d) above)))
    go false z =
        round_same f false (m * up e * down d) (n * up d * down e) h t (mul-pos above (down_pos e)) P
        (ratio (m * up e) (down e) h (n * up d) (down d) t v.1 w.1)

whole_is : (f : Format) (n : ℕ) → n ≤ 2 ^ prec f → HasValue (of_int f (pos n)) false n 1
unfolding of_int
whole_is f n h = round_whole f false n h

pub fraction_is : (f : Format) (h t : ℕ) → 0 < t → h ≤ 2 ^ prec f → t ≤ 2 ^ prec f → div f (of_int f (pos h)) (of_int f (pos t)) ≡ round f false h t
fraction_is f h t P k l = div_values f (of_int f (pos h)) (of_int f (pos t)) h t (whole_is f h k) (whole_is f t l) P

pub fraction_fill : (f : Format) (h t : ℕ) → 0 < t → h ≤ t → t ≤ 2 ^ prec f → Fill f (div f (of_int f (pos h)) (of_int f (pos t)))
fraction_fill f h t P k l = subst (λ (z : Float). Fill f z) (sym (fraction_is f h t P (le_trans k l) l)) (round_fill f h t P k)

pub fill_of_fill : (held total : ℕ) → 0 < total → held ≤ total → total ≤ 2 ^ 53 → Fill binary64 (fill_of held total)
fill_of_fill held total P k l =
    pick (eqb held 0) (eqb held total) (div binary64 (of_int binary64 (pos held)) (of_int binary64 (pos total)))
    (fraction_fill binary64 held total P k l)
  where
    pick : (b c : Bool) (x : Float) → Fill binary64 x → Fill binary64 (cond b gauge.zero (cond c gauge.one x))
    pick true c x h = zero_fill
    pick false true x h = one_fill
    pick false false x h = h

-- ---- a fill passes the test, and is a number
pub fill_passes : (x : Float) → Fill binary64 x → T (is_fill x)
fill_passes x h =
    and_i (le gauge.zero x) (le x gauge.one)
    (subst (λ (z : Float). T (le z x)) (sym zero_is) (zero_le_fill binary64 x h))
    (subst (λ (z : Float). T (le x z)) (sym one_is) (fill_le_one binary64 x h))

pub fill_number : (x : Float) → Fill binary64 x → T (not (is_nan x))
unfolding is_nan
fill_number (fin false m e) h = tt
fill_number nan h = elim h [ ]
fill_number (inf _) h = elim h [ ]
fill_number (fin true m e) h = elim h [ ]

-- what passes the test is a fill, or -0
not_nothing : (m u d : ℕ) → 0 < u → 0 * d ≡ suc m * u * 1 → ⊥
not_nothing m u d h e = omega (arith, mul-le-mul_right {m = 1} {n = suc m} u (suc-le-suc zero-le))

abbrev FillOrZero : Format → Float → Type 0
FillOrZero f x = Fill f x ⊎ ((e : ℤ) × (x ≡ fin true 0 e) × T (fits f (fin false 0 e)))

fill_or_zero : (f : Format) (x : Float) → T (fits f x) → T (le (fin false 0 (pos 0)) x) → T (le x (fin false 1 (pos 0))) → FillOrZero f x
unfolding le fits
fill_or_zero f nan t h k = absurd h
fill_or_zero f (inf true) t h k = absurd h
fill_or_zero f (inf false) t h k = absurd k
fill_or_zero f (fin false m e) t h k = inl (fill_of_lem f m e t k)
fill_or_zero f (fin true zero e) t h k = inr (e, refl, t)
fill_or_zero f (fin true (suc m) e) t h k =
    absurd (not_nothing m (up e) (down e) (up_pos e)
    (eqb→eq (0 * down e) (suc m * up e * 1) (and_l (eqb (0 * down e) (suc m * up e * 1)) (eqb (0 * down e) 0) h)))

passes_fill_or_zero : (x : Float) → T (fits binary64 x) → T (is_fill x) → FillOrZero binary64 x
passes_fill_or_zero x t h =
    fill_or_zero binary64 x t
    (subst (λ (z : Float). T (le z x)) zero_is (and_l (le gauge.zero x) (le x gauge.one) h))
    (subst (λ (z : Float). T (le x z)) one_is (and_r (le gauge.zero x) (le x gauge.one) h))

-- ---- the smoothed fill
pub smoothed_by_is : (s x : Float) → smoothed_by s x ≡ smooth binary64 s x
smoothed_by_is s x = ap (λ (q : Float). add binary64 s (mul binary64 (sub binary64 x s) q)) quarter_is

nothing_under : (u d : ℕ) → 0 * u ≤ d
nothing_under u d = omega arith

pub smoothed_by_fill : (s x : Float) → T (fits binary64 s) → T (is_fill s) → Fill binary64 x → Fill binary64 (smoothed_by s x)
smoothed_by_fill s x t h p =
    subst (λ (z : Float). Fill binary64 z) (sym (smoothed_by_is s x)) (go (passes_fill_or_zero s t h))
  where
    go : FillOrZero binary64 s → Fill binary64 (smooth binary64 s x)
    go (inl q) = smooth_fill binary64 s x q p
    go (inr (e, is, u)) =
        subst (λ (z : Float). Fill binary64 (smooth binary64 z x)) (sym is)
        (subst (λ (z : Float). Fill binary64 z) (sym (smooth_zeros binary64 e x p))
        (smooth_fill binary64 (fin false 0 e) x (u, nothing_under (up e) (down e)) p))

-- ---- what an unrefused reading is handed
passes : (b : Bool) → not b ≡ false → T b
passes b p = subst T (sym (not-false b p)) tt

some_bytes : (n : ℕ) → eqb n 0 ≡ false → 0 < n
some_bytes zero p = absurd (true≢false p)
some_bytes (suc n) p = zero-lt-suc n

pub record Unrefused (g : Gauge) (held total : ℕ) : Type 0 where
  pub last : T (is_fill g.last)
  pub smoothed : T (is_fill g.smoothed)
  pub some : 0 < total
  pub within : held ≤ total

pub unrefused : (g : Gauge) (a : Alarm) (held total : ℕ) → wrong g a held total ≡ false → Unrefused g held total
unfolding wrong
unrefused g a held total p =
    let l : Bool = not (is_fill g.last) in
    let s : Bool = not (is_fill g.smoothed) in
    let z : Bool = eqb total 0 in
    let h : Bool = ltb total held in
    let p1 : (l || (s || (z || h))) ≡ false = or_second (wrong_limits a) (l || (s || (z || h))) p in
    let p2 : (s || (z || h)) ≡ false = or_second l (s || (z || h)) p1 in
    let p3 : (z || h) ≡ false = or_second s (z || h) p2 in
    record {
      last = passes (is_fill g.last) (or_first l (s || (z || h)) p1);
      smoothed = passes (is_fill g.smoothed) (or_first s (z || h) p2);
      some = some_bytes total (or_first z h p3);
      within = ltb-false total held (or_second z h p3);
    }

-- ---- An unrefused reading of any gauge whose smoothed fill a float of 64 bits holds: both new fills are numbers from 0 to 1
pub record Number (x : Float) : Type 0 where
  pub holds : T (fits binary64 x)
  pub passes : T (is_fill x)
  pub number : T (not (is_nan x))

pub fill_is_number : (x : Float) → Fill binary64 x → Number x
fill_is_number x h = record { holds = fill_fits binary64 x h; passes = fill_passes x h; number = fill_number x h }

pub record Stays (g : Gauge) (held total : ℕ) : Type 0 where
  pub last : Number (fill_of held total)
  pub smoothed : Number (smoothed_by g.smoothed (fill_of held total))

pub stays : (g : Gauge) (a : Alarm) (held total : ℕ) → total ≤ 2 ^ 53 → T (fits binary64 g.smoothed) → wrong g a held total ≡ false
    → Stays g held total
stays g a held total c t p =
    let u : Unrefused g held total = unrefused g a held total p in
    let x : Fill binary64 (fill_of held total) = fill_of_fill held total u.some u.within c in
    record {
      last = fill_is_number (fill_of held total) x;
      smoothed = fill_is_number (smoothed_by g.smoothed (fill_of held total)) (smoothed_by_fill g.smoothed (fill_of held total) t u.smoothed x);
    }

-- ---- so a reading that is answered 0 leaves two numbers
pub record Numbers (r : Reading) : Type 0 where
  pub last : T (not (is_nan r.gauge.last))
  pub smoothed : T (not (is_nan r.gauge.smoothed))

-- a reading, by what `wrong` says
abbrev pub answered : Gauge → Alarm → ℕ → ℕ → Bool → Reading
answered g a held total b = cond b (refused g) (taken a (moved g (fill_of held total)))

pub taken_numbers : (g : Gauge) (a : Alarm) (held total : ℕ) → total ≤ 2 ^ 53 → T (fits binary64 g.smoothed)
    → number_of (reading g a held total).status ≡ 0 → Numbers (reading g a held total)
unfolding reading
taken_numbers g a held total c t e = go (wrong g a held total) refl e
  where
    ten : ◌≡◌ {A = ℕ} 10 0 → ⊥
    ten e = omega arith

    go : (b : Bool) → wrong g a held total ≡ b → number_of (answered g a held total b).status ≡ 0 → Numbers (answered g a held total b)
    go true p e = absurd (ten e)
    go false p e = let s = stays g a held total c t p in record { last = s.last.number; smoothed = s.smoothed.number }

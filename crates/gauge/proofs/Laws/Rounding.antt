-- Rounding a fraction up to 1, in any format: the result is finite, has the sign that was asked for, and is at most twice the fraction.
-- A value that its format holds rounds to itself, so what is rounded stays on its side of such a value. Assumes nothing.
use Prim.Native.Nat.{ℕ, zero, suc, ◌+◌, ◌-◌, ◌*◌, ◌/◌, ◌%◌, ◌^◌, ◌≤◌, ◌<◌, compare, Ordering}
use mathlib.Core.Path.{◌≡◌, refl, sym, ap, ◌∙◌, subst}
use mathlib.Core.Logic.{◌⊎◌, inl, inr}
use mathlib.Core.Bool.{Bool, true, false, not, ◌&&◌, ◌||◌, true≢false}
use native.Mathlib.Omega.{arith}
use native.Mathlib.Nat.{le_of_eq, le_of_lt, lt_of_le_of_lt, lt_of_not-le, not-le_of_lt, le_of_suc-le-suc, div-add-mod', pow-succ', zero-mul}
use native.Mathlib.Nat.{mul-le-mul_right, mul-lt-mul_of_pos_right, le_of_mul-le-mul_right, lt_of_mul-lt-mul_right}
use lib.IntN.{ℤ, pos, negsuc}
use lib.Dec.{T, is_le, compare_is_eq, leb, ltb, eqb, leb→le, nleb→lt, ltb→lt, nltb→le, eqb→eq, lit<}
use lib.Pow.{pow-add, pow_pos, pow-lt}
use lib.Ieee.{Float, nan, inf, fin, Format, binary32, binary64, prec, emax, low, up, down, nearest, round, le, fits}
use lib.Ieee.Fits.{nearest-le, round_is, down_pos, and_l, and_r}
use lib.Ieee.Exact.{HasValue, units_val, round_exact}
use lib.Ieee.Nearest.{closest}
use lib.Ieee.Order.{drop, kept, le_of_values, round_mono}
use lib.Ieee.Scale.{grid, overflow}

-- ---- a / b to the nearest whole number is at most twice a / b: it goes up only from a half or more
up_from_half : (w r b n : ℕ) → n ≤ suc w → b ≤ r * 2 → n * b ≤ 2 * (w * b + r)
up_from_half w r b n h k = omega (arith, mul-le-mul_right b h)

pub closest_double : (a b : ℕ) → closest a b * b ≤ 2 * a
closest_double a b =
    let r = a % b in
    subst (λ (x : ℕ). closest a b * b ≤ 2 * x) (div-add-mod' a b) (go (a / b) r (compare (r * 2) b) (eqb→eq (r * 2) b) (nleb→lt (r * 2) b))
  where
    go : (w r : ℕ) (o : Ordering) → (T (compare_is_eq o) → r * 2 ≡ b) → (T (not (is_le o)) → b < r * 2) → nearest w o * b ≤ 2 * (w * b + r)
    go w r Ordering.lt e g = omega arith
    go w r Ordering.eq e g = up_from_half w r b (nearest w Ordering.eq) (nearest-le w Ordering.eq) (le_of_eq (sym (e tt)))
    go w r Ordering.gt e g = up_from_half w r b (suc w) (nearest-le w Ordering.gt) (le_of_lt (g tt))

-- ---- a rounded fraction, in units of the format's smallest value
regroup : (q k c n : ℕ) → q * (c * k) ≤ 2 * n → q * k * c ≤ 2 * n
regroup q k c n h = omega arith

pub grid_double : (f : Format) (a c : ℕ) → grid f a c * c ≤ 2 * (a * 2 ^ low f)
grid_double f a c =
    let n = a * 2 ^ low f in
    let k = drop (prec f) n c in
    regroup (kept (prec f) n c) (2 ^ k) c n (closest_double n (c * 2 ^ k))

room : (f : Format) → suc (low f) < low f + suc (emax f)
room binary32 = lit< tt
room binary64 = lit< tt

units_le : (g c a l : ℕ) → g * c ≤ 2 * (a * l) → a ≤ c → g * c ≤ 2 * l * c
units_le g c a l h k = omega (arith, mul-le-mul_right l k)

-- a fraction up to 1 does not overflow
pub below_overflow : (f : Format) (a c : ℕ) → 0 < c → a ≤ c → grid f a c < overflow f
below_overflow f a c C h =
    lt_of_le_of_lt (le_of_mul-le-mul_right (units_le (grid f a c) c a (2 ^ low f) (grid_double f a c) h) C)
    (subst (λ (x : ℕ). x < overflow f) (pow-succ' 2 (low f)) (pow-lt (room f)))

pub round_value : (f : Format) (s : Bool) (a c : ℕ) → grid f a c < overflow f → HasValue (round f s a c) s (grid f a c) (2 ^ low f)
round_value f s a c h =
    let n = a * 2 ^ low f in
    subst (λ (z : Float). HasValue z s (grid f a c) (2 ^ low f)) (sym (round_is f s a c)) (units_val f s (kept (prec f) n c) (drop (prec f) n c) h)

-- ---- x is finite, has the sign s, and is at most a / c in size
abbrev pub AtMost : Float → Bool → ℕ → ℕ → Type 0
AtMost nan s a c = ⊥
AtMost (inf t) s a c = ⊥
AtMost (fin t m e) s a c = (t ≡ s) × (m * up e * c ≤ a * down e)

-- x / d is g / l, and g / l ≤ a / c
carried : (x d g l a c : ℕ) → 0 < l → x * l ≡ g * d → g * c ≤ a * l → x * c ≤ a * d
carried x d g l a c L e h = le_of_mul-le-mul_right {k = l} (product x d g l a c e (mul-le-mul_right d h)) L
  where
    product : (x d g l a c : ℕ) → x * l ≡ g * d → g * c * d ≤ a * l * d → x * c * l ≤ a * d * l
    product x d g l a c e h =
        let k : x * l * c ≡ g * d * c = ap (λ (z : ℕ). z * c) e in
        omega arith

at_most : (x : Float) (s : Bool) (g l a c : ℕ) → 0 < l → HasValue x s g l → g * c ≤ a * l → AtMost x s a c
at_most (fin t m e) s g l a c L v h = (v.0, carried (m * up e) (down e) g l a c L v.1 h)
at_most nan s g l a c L v h = elim v [ ]
at_most (inf _) s g l a c L v h = elim v [ ]

twice : (g c a l : ℕ) → g * c ≤ 2 * (a * l) → g * c ≤ 2 * a * l
twice g c a l h = omega arith

-- a fraction up to 1 rounds to at most twice itself
pub round_double : (f : Format) (s : Bool) (a c : ℕ) → 0 < c → a ≤ c → AtMost (round f s a c) s (2 * a) c
round_double f s a c C h =
    at_most (round f s a c) s (grid f a c) (2 ^ low f) (2 * a) c (pow_pos (low f)) (round_value f s a c (below_overflow f a c C h))
    (twice (grid f a c) c a (2 ^ low f) (grid_double f a c))

-- ---- a value that the format holds rounds to itself
-- its size is m * 2 ^ j units
abbrev InUnits : Format → ℕ → ℤ → ℕ → Type 0
InUnits f m e j = m * up e * 2 ^ low f ≡ m * 2 ^ j * down e

power_le : (i j : ℕ) → 2 ^ i ≤ 2 ^ j → i ≤ j
power_le i j h = le_of_suc-le-suc (lt_of_not-le (λ (g : suc j ≤ i). not-le_of_lt (pow-lt g) h))

whole_units : (m p l : ℕ) → m * p * l ≡ m * (p * l) * 1
whole_units m p l = omega arith

part_units : (m p d : ℕ) → m * 1 * (p * d) ≡ m * p * d
part_units m p d = omega arith

back : (j k : ℕ) → j ≤ k → k - j + j ≡ k
back j k h = omega arith

units_of : (f : Format) (m : ℕ) (e : ℤ) → down e ≤ 2 ^ low f → (j : ℕ) × InUnits f m e j
units_of f m (pos k) h = (k + low f, whole_units m (2 ^ k) (2 ^ low f) ∙ ap (λ (x : ℕ). m * x * 1) (sym (pow-add 2 k (low f))))
units_of f m (negsuc k) h =
    let j = low f - suc k in
    let b : j + suc k ≡ low f = back (suc k) (low f) (power_le (suc k) (low f) h) in
    (j, ap (λ (x : ℕ). m * 1 * x) (ap (λ (x : ℕ). 2 ^ x) (sym b) ∙ pow-add 2 j (suc k)) ∙ part_units m (2 ^ j) (2 ^ suc k))

-- what `fits` says of a value that is not zero
abbrev Holds : Format → ℕ → ℤ → Type 0
Holds f m e = (m < 2 ^ prec f) × (down e ≤ 2 ^ low f) × (m * up e < 2 ^ suc (emax f) * down e)

holds : (f : Format) (s : Bool) (m : ℕ) (e : ℤ) → T (fits f (fin s (suc m) e)) → Holds f (suc m) e
unfolding fits
holds f s m e t =
    let a : Bool = eqb (suc m % 2) 1 in
    let b : Bool = ltb (suc m) (2 ^ prec f) in
    let c : Bool = leb (down e) (2 ^ low f) in
    let d : Bool = ltb (suc m * up e) (2 ^ suc (emax f) * down e) in
    let abc : T (a && b && c) = and_l (a && b && c) d t in (
      ltb→lt (suc m) (2 ^ prec f) (and_r a b (and_l (a && b) c abc)),
      leb→le (down e) (2 ^ low f) (and_r (a && b) c abc),
      ltb→lt (suc m * up e) (2 ^ suc (emax f) * down e) (and_r (a && b && c) d t),
    )

under_overflow : (x d u l t : ℕ) → x * l ≡ u * d → x < t * d → 0 < l → u * d < l * t * d
under_overflow x d u l t e h L =
    let k : x * l < t * d * l = mul-lt-mul_of_pos_right h L in
    omega arith

pub round_held : (f : Format) (s : Bool) (m : ℕ) (e : ℤ) → T (fits f (fin s m e)) → HasValue (round f s (m * up e) (down e)) s (m * up e) (down e)
round_held f s zero e t =
    round_exact f s (0 * up e) (down e) 0 0 (down_pos e) (pow_pos (prec f)) (pow_pos (low f + suc (emax f)))
    (ap (λ (x : ℕ). x * 2 ^ low f) (zero-mul (up e)) ∙ zero-mul (2 ^ low f) ∙ sym (zero-mul (down e)))
round_held f s (suc m) e t =
    let h = holds f s m e t in
    let u = units_of f (suc m) e h.1 in
    let w = suc m * 2 ^ u.0 in
    round_exact f s (suc m * up e) (down e) (suc m) u.0 (down_pos e) h.0
    (subst (λ (x : ℕ). w < x) (sym (pow-add 2 (low f) (suc (emax f))))
    (lt_of_mul-lt-mul_right (down e) (under_overflow (suc m * up e) (down e) w (2 ^ low f) (2 ^ suc (emax f)) u.1 h.2 (pow_pos (low f)))))
    u.1

-- ---- the order of two values without a sign is that of their fractions
pub le_or_lt : (a b : ℕ) → (a ≤ b) ⊎ (b < a)
le_or_lt a b = go (ltb b a) (ltb→lt b a) (nltb→le b a)
  where
    go : (t : Bool) → (T t → b < a) → (T (not t) → a ≤ b) → (a ≤ b) ⊎ (b < a)
    go true l g = inr (l tt)
    go false l g = inl (g tt)

order_of_test : (a b : ℕ) → T (ltb a b || (eqb a b && true)) → a ≤ b
order_of_test a b t = go (ltb a b) (eqb a b) (ltb→lt a b) (eqb→eq a b) t
  where
    go : (p q : Bool) → (T p → a < b) → (T q → a ≡ b) → T (p || (q && true)) → a ≤ b
    go true q l e t = le_of_lt (l tt)
    go false true l e t = le_of_eq (e tt)
    go false false l e t = absurd t

pub order_of_le : (m : ℕ) (e : ℤ) (n : ℕ) (d : ℤ) → T (le (fin false m e) (fin false n d)) → m * up e * down d ≤ n * up d * down e
unfolding le
order_of_le m e n d t = order_of_test (m * up e * down d) (n * up d * down e) t

pub le_of_order : (m : ℕ) (e : ℤ) (n : ℕ) (d : ℤ) → m * up e * down d ≤ n * up d * down e → T (le (fin false m e) (fin false n d))
le_of_order m e n d h =
    le_of_values (fin false m e) (fin false n d) (m * up e) (down e) (n * up d) (down d) (down_pos e) (down_pos d) (refl, refl) (refl, refl) h

-- one of two values may be swapped for another of the same size
le_from : (z y : Float) (m : ℕ) (e : ℤ) (a c : ℕ) → HasValue z false (m * up e) (down e) → AtMost y false a c → T (le z y) → T (le (fin false m e) y)
le_from (fin false k i) (fin false n d) m e a c v w t =
    le_of_order m e n d (carried (m * up e) (down e) (k * up i) (down i) (n * up d) (down d) (down_pos i) (sym v.1) (order_of_le k i n d t))
le_from (fin true k i) y m e a c v w t = absurd (true≢false v.0)
le_from (fin false k i) (fin true n d) m e a c v w t = absurd (true≢false w.0)
le_from nan y m e a c v w t = elim v [ ]
le_from (inf _) y m e a c v w t = elim v [ ]
le_from (fin false k i) nan m e a c v w t = elim w [ ]
le_from (fin false k i) (inf _) m e a c v w t = elim w [ ]

le_to : (z y : Float) (m : ℕ) (e : ℤ) (a c : ℕ) → HasValue z false (m * up e) (down e) → AtMost y false a c → T (le y z) → T (le y (fin false m e))
le_to (fin false k i) (fin false n d) m e a c v w t =
    le_of_order n d m e (across (n * up d) (down d) (k * up i) (down i) (m * up e) (down e) (down_pos i) v.1 (order_of_le n d k i t))
  where
    -- y / d ≤ g / l, and g / l is x / b
    across : (y d g l x b : ℕ) → 0 < l → g * b ≡ x * l → y * l ≤ g * d → y * b ≤ x * d
    across y d g l x b L p h = le_of_mul-le-mul_right {k = l} (product y d g l x b (ap (λ (z : ℕ). z * d) p) (mul-le-mul_right b h)) L
      where
        product : (y d g l x b : ℕ) → g * b * d ≡ x * l * d → y * l * b ≤ g * d * b → y * b * l ≤ x * d * l
        product y d g l x b p h = omega arith
le_to (fin true k i) y m e a c v w t = absurd (true≢false v.0)
le_to (fin false k i) (fin true n d) m e a c v w t = absurd (true≢false w.0)
le_to nan y m e a c v w t = elim v [ ]
le_to (inf _) y m e a c v w t = elim v [ ]
le_to (fin false k i) nan m e a c v w t = elim w [ ]
le_to (fin false k i) (inf _) m e a c v w t = elim w [ ]

-- ---- a fraction up to 1 rounds to no less than a held value that it is no less than, and to no more than one that it is no more than
pub le_round : (f : Format) (m : ℕ) (e : ℤ) (a c : ℕ) → T (fits f (fin false m e)) → 0 < c → a ≤ c → m * up e * c ≤ a * down e
    → T (le (fin false m e) (round f false a c))
le_round f m e a c t C k h =
    le_from (round f false (m * up e) (down e)) (round f false a c) m e (2 * a) c (round_held f false m e t) (round_double f false a c C k)
    (round_mono f (m * up e) (down e) a c (down_pos e) C h)

pub round_le : (f : Format) (m : ℕ) (e : ℤ) (a c : ℕ) → T (fits f (fin false m e)) → 0 < c → a ≤ c → a * down e ≤ m * up e * c
    → T (le (round f false a c) (fin false m e))
round_le f m e a c t C k h =
    le_to (round f false (m * up e) (down e)) (round f false a c) m e (2 * a) c (round_held f false m e t) (round_double f false a c C k)
    (round_mono f a c (m * up e) (down e) C (down_pos e) h)

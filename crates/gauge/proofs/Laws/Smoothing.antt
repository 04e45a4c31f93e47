-- The fills of a gauge. A `Fill` is a value from 0 to 1 that the format holds, with its sign clear. A fraction up to 1 rounds to one.
-- The smoothed fill s + (x - s) / 4 lies between s and x: each of the two roundings on the way to q, the part that is added, at most doubles,
-- so q is at most |x - s|, exactly, and the last rounding moves nothing past s or x, which the format holds. Assumes nothing.
use Prim.Native.Nat.{ℕ, zero, suc, ◌+◌, ◌-◌, ◌*◌, ◌≤◌, ◌<◌}
use mathlib.Core.Path.{◌≡◌, refl, sym, ap, ◌∙◌, subst}
use mathlib.Core.Logic.{◌⊎◌, inl, inr}
use mathlib.Core.Bool.{Bool, true, false, not, cond, true≢false, false≢true}
use native.Mathlib.Omega.{arith}
use native.Mathlib.Nat.{le_trans, le_of_lt, mul-pos, mul-le-mul_right, le_of_mul-le-mul_right, zero-lt-suc, not-le_of_lt, le_of_eq, mul_comm, sub-le, sub-zero, sub-add_cancel}
use lib.IntN.{ℤ, pos, negsuc}
use lib.Dec.{T, ltb, ltb→lt, lt→ltb, nltb→le}
use lib.Ieee.{Float, nan, inf, fin, Format, binary32, binary64, up, down, round, sum, add, sub, mul, le, fits}
use lib.Ieee.Fits.{round-fits, down_pos}
use Rattle.gauge.proofs.Laws.Rounding.{AtMost, round_double, le_round, round_le, le_or_lt, order_of_le, le_of_order}

-- ---- a fill
abbrev pub Fill : Format → Float → Type 0
Fill f nan = ⊥
Fill f (inf s) = ⊥
Fill f (fin true m e) = ⊥
Fill f (fin false m e) = T (fits f (fin false m e)) × (m * up e ≤ down e)

pub one_fits : (f : Format) → T (fits f (fin false 1 (pos 0)))
unfolding fits
one_fits binary32 = tt
one_fits binary64 = tt

pub fill_fits : (f : Format) (x : Float) → Fill f x → T (fits f x)
fill_fits f (fin false m e) h = h.0
fill_fits f nan h = elim h [ ]
fill_fits f (inf _) h = elim h [ ]
fill_fits f (fin true m e) h = elim h [ ]

under_one : (x d : ℕ) → x * 1 ≤ 1 * d → x ≤ d
under_one x d h = omega arith

over_zero : (x d : ℕ) → 0 * d ≤ x * 1
over_zero x d = omega arith

pub zero_le_fill : (f : Format) (x : Float) → Fill f x → T (le (fin false 0 (pos 0)) x)
zero_le_fill f (fin false m e) h = le_of_order 0 (pos 0) m e (over_zero (m * up e) (down e))
zero_le_fill f nan h = elim h [ ]
zero_le_fill f (inf _) h = elim h [ ]
zero_le_fill f (fin true m e) h = elim h [ ]

one_up : (x d : ℕ) → x ≤ d → x * 1 ≤ 1 * d
one_up x d h = omega arith

pub fill_le_one : (f : Format) (x : Float) → Fill f x → T (le x (fin false 1 (pos 0)))
fill_le_one f (fin false m e) h = le_of_order m e 1 (pos 0) (one_up (m * up e) (down e) h.1)
fill_le_one f nan h = elim h [ ]
fill_le_one f (inf _) h = elim h [ ]
fill_le_one f (fin true m e) h = elim h [ ]

pub fill_of_lem : (f : Format) (m : ℕ) (e : ℤ) → T (fits f (fin false m e)) → T (le (fin false m e) (fin false 1 (pos 0))) → Fill f (fin false m e)
fill_of_lem f m e t h = (t, under_one (m * up e) (down e) (order_of_le m e 1 (pos 0) h))

made : (f : Format) (x : Float) (a c : ℕ) → AtMost x false a c → T (fits f x) → T (le x (fin false 1 (pos 0))) → Fill f x
made f (fin true m e) a c b t h = absurd (true≢false b.0)
made f (fin false m e) a c b t h = fill_of_lem f m e t h
made f nan a c b t h = elim b [ ]
made f (inf _) a c b t h = elim b [ ]

-- a fraction up to 1 rounds to a fill
pub round_fill : (f : Format) (a c : ℕ) → 0 < c → a ≤ c → Fill f (round f false a c)
round_fill f a c C h =
    made f (round f false a c) (2 * a) c (round_double f false a c C h) (round-fits f false a c)
    (round_le f 1 (pos 0) a c (one_fits f) C h (one_up a c h))

-- ---- a quarter of what is at most twice a / c is at most a / c, rounded too
quarter_under : (x d a c : ℕ) → 0 < c → a ≤ c → x * c ≤ 2 * a * d → x * 1 ≤ d * 4
quarter_under x d a c C h k = le_of_mul-le-mul_right {k = c} (product x d a c (mul-le-mul_right d h) k) C
  where
    product : (x d a c : ℕ) → a * d ≤ c * d → x * c ≤ 2 * a * d → x * 1 * c ≤ d * 4 * c
    product x d a c h k = omega arith

quarter_size : (q b x d a c : ℕ) → 0 < d → q * (d * 4) ≤ 2 * (x * 1) * b → x * c ≤ 2 * a * d → q * c ≤ a * b
quarter_size q b x d a c D h k = le_of_mul-le-mul_right {k = d} (product q b x d a c (mul-le-mul_right c h) (mul-le-mul_right b k)) D
  where
    product : (q b x d a c : ℕ) → q * (d * 4) * c ≤ 2 * (x * 1) * b * c → x * c * b ≤ 2 * a * d * b → q * c * d ≤ a * b * d
    product q b x d a c h k = omega arith

shrunk : (y : Float) (s : Bool) (x d a c : ℕ) → 0 < d → AtMost y s (2 * (x * 1)) (d * 4) → x * c ≤ 2 * a * d → AtMost y s a c
shrunk (fin t n i) s x d a c D h k = (h.0, quarter_size (n * up i) (down i) x d a c D h.1 k)
shrunk nan s x d a c D h k = elim h [ ]
shrunk (inf _) s x d a c D h k = elim h [ ]

times_plain : (f : Format) (s : Bool) (m : ℕ) (e : ℤ) → mul f (fin s m e) (fin false 1 (negsuc 1)) ≡ round f s (m * up e * 1) (down e * 4)
unfolding mul
times_plain f true m e = refl
times_plain f false m e = refl

quarter_at_most : (f : Format) (y : Float) (s : Bool) (a c : ℕ) → 0 < c → a ≤ c → AtMost y s (2 * a) c
    → AtMost (mul f y (fin false 1 (negsuc 1))) s a c
quarter_at_most f (fin t m e) s a c C h b =
    let four : 0 < 4 = zero-lt-suc 3 in
    subst (λ (z : Float). AtMost z s a c) (sym (ap (λ (u : Bool). mul f (fin u m e) (fin false 1 (negsuc 1))) b.0 ∙ times_plain f s m e))
    (shrunk (round f s (m * up e * 1) (down e * 4)) s (m * up e) (down e) a c (down_pos e)
    (round_double f s (m * up e * 1) (down e * 4) (mul-pos (down_pos e) four) (quarter_under (m * up e) (down e) a c C h b.1)) b.1)
quarter_at_most f nan s a c C h b = elim b [ ]
quarter_at_most f (inf _) s a c C h b = elim b [ ]

-- ---- sums and differences of two values, as one rounding
plus : (f : Format) (a b c : ℕ) → sum f false a false b c ≡ round f false (a + b) c
unfolding sum
plus f a b c = refl

minus : (f : Format) (a b c : ℕ) → b ≤ a → sum f false a true b c ≡ round f false (a - b) c
unfolding sum
minus f a b c h = go (ltb a b) (ltb→lt a b)
  where
    go : (t : Bool) → (T t → a < b) → cond t (round f true (b - a) c) (round f false (a - b) c) ≡ round f false (a - b) c
    go true k = absurd (not-le_of_lt (k tt) h)
    go false k = refl

minus_more : (f : Format) (a b c : ℕ) → a < b → sum f false a true b c ≡ round f true (b - a) c
unfolding sum
minus_more f a b c h = go (ltb a b) (nltb→le a b)
  where
    go : (t : Bool) → (T (not t) → b ≤ a) → cond t (round f true (b - a) c) (round f false (a - b) c) ≡ round f true (b - a) c
    go true k = refl
    go false k = absurd (not-le_of_lt h (k tt))

add_is : (f : Format) (s : Bool) (m : ℕ) (e : ℤ) (t : Bool) (n : ℕ) (d : ℤ)
    → add f (fin s m e) (fin t n d) ≡ sum f s (m * up e * down d) t (n * up d * down e) (down e * down d)
unfolding add
add_is f s m e t n d = refl

sub_is : (f : Format) (m : ℕ) (e : ℤ) (t : Bool) (n : ℕ) (d : ℤ)
    → sub f (fin false m e) (fin t n d) ≡ sum f false (m * up e * down d) (not t) (n * up d * down e) (down e * down d)
unfolding sub
sub_is f m e t n d = refl

-- ---- what is added: a quarter of the difference, with its sign
abbrev pub part : Format → Float → Float → Float
part f s x = mul f (sub f x s) (fin false 1 (negsuc 1))

within : (x d b p : ℕ) → x ≤ d → x * b - p ≤ d * b
within x d b p h = omega (arith, mul-le-mul_right b h)

part_up : (f : Format) (m : ℕ) (e : ℤ) (n : ℕ) (d : ℤ) → n * up d ≤ down d → m * up e * down d ≤ n * up d * down e
    → AtMost (part f (fin false m e) (fin false n d)) false (n * up d * down e - m * up e * down d) (down d * down e)
part_up f m e n d h k =
    let a = n * up d * down e - m * up e * down d in
    let c = down d * down e in
    let C : 0 < c = mul-pos (down_pos d) (down_pos e) in
    let A : a ≤ c = within (n * up d) (down d) (down e) (m * up e * down d) h in
    quarter_at_most f (sub f (fin false n d) (fin false m e)) false a c C A
    (subst (λ (z : Float). AtMost z false (2 * a) c) (sym (sub_is f n d false m e ∙ minus f (n * up d * down e) (m * up e * down d) c k))
    (round_double f false a c C A))

part_down : (f : Format) (m : ℕ) (e : ℤ) (n : ℕ) (d : ℤ) → m * up e ≤ down e → n * up d * down e < m * up e * down d
    → AtMost (part f (fin false m e) (fin false n d)) true (m * up e * down d - n * up d * down e) (down e * down d)
part_down f m e n d h k =
    let a = m * up e * down d - n * up d * down e in
    let c = down d * down e in
    let C : 0 < c = mul-pos (down_pos d) (down_pos e) in
    let A : a ≤ c = le_trans (within (m * up e) (down e) (down d) (n * up d * down e) h) (le_of_eq (mul_comm (down e) (down d))) in
    subst (λ (z : ℕ). AtMost (part f (fin false m e) (fin false n d)) true a z) (mul_comm (down d) (down e))
    (quarter_at_most f (sub f (fin false n d) (fin false m e)) true a c C A
    (subst (λ (z : Float). AtMost z true (2 * a) c) (sym (sub_is f n d false m e ∙ minus_more f (n * up d * down e) (m * up e * down d) c k))
    (round_double f true a c C A)))

-- ---- y is a fill, and lies from lo to hi
pub record Between (f : Format) (lo hi y : Float) : Type 0 where
  pub fill : Fill f y
  pub above : T (le lo y)
  pub below : T (le y hi)

between : (f : Format) (m : ℕ) (e : ℤ) (n : ℕ) (d : ℤ) (a c : ℕ) → T (fits f (fin false m e)) → T (fits f (fin false n d)) → 0 < c → a ≤ c
    → m * up e * c ≤ a * down e → a * down d ≤ n * up d * c → Between f (fin false m e) (fin false n d) (round f false a c)
between f m e n d a c s x C h l u = record {
  fill = round_fill f a c C h;
  above = le_round f m e a c s C h l;
  below = round_le f n d a c x C h u;
}

-- q / b is at most the difference of big / c and small / c
apart : (q b big small c : ℕ) → small ≤ big → q * c ≤ (big - small) * b → q * c + small * b ≤ big * b
apart q b big small c h k = go (big - small) (sub-add_cancel h) k
  where
    go : (p : ℕ) → p + small ≡ big → q * c ≤ p * b → q * c + small * b ≤ big * b
    go p e k =
        let g : (p + small) * b ≡ big * b = ap (λ (z : ℕ). z * b) e in
        omega arith

-- ---- up from S / s towards X / x, by Q / q
rise_over : (S s Q q : ℕ) → S * (s * q) ≤ (S * q + Q * s) * s
rise_over S s Q q = omega arith

rise_under : (S s X x Q q : ℕ) → Q * (x * s) + S * x * q ≤ X * s * q → (S * q + Q * s) * x ≤ X * (s * q)
rise_under S s X x Q q h = omega arith

rise_one : (S s X x Q q : ℕ) → 0 < x → X ≤ x → (S * q + Q * s) * x ≤ X * (s * q) → S * q + Q * s ≤ s * q
rise_one S s X x Q q P h k = le_of_mul-le-mul_right {k = x} (le_trans k (product (mul-le-mul_right (s * q) h))) P
  where
    product : X * (s * q) ≤ x * (s * q) → X * (s * q) ≤ s * q * x
    product h = omega arith

rise : (f : Format) (m : ℕ) (e : ℤ) (n : ℕ) (d : ℤ) (y : Float) → Fill f (fin false m e) → Fill f (fin false n d)
    → m * up e * down d ≤ n * up d * down e → AtMost y false (n * up d * down e - m * up e * down d) (down d * down e)
    → Between f (fin false m e) (fin false n d) (add f (fin false m e) y)
rise f m e n d (fin true k i) s x h b = absurd (true≢false b.0)
rise f m e n d (fin false k i) s x h b =
    let S = m * up e in
    let X = n * up d in
    let Q = k * up i in
    let u : (S * down i + Q * down e) * down d ≤ X * (down e * down i) =
    rise_under S (down e) X (down d) Q (down i) (apart Q (down i) (X * down e) (S * down d) (down d * down e) h b.1) in
    subst (λ (z : Float). Between f (fin false m e) (fin false n d) z)
    (sym (add_is f false m e false k i ∙ plus f (S * down i) (Q * down e) (down e * down i)))
    (between f m e n d (S * down i + Q * down e) (down e * down i) s.0 x.0 (mul-pos (down_pos e) (down_pos i))
    (rise_one S (down e) X (down d) Q (down i) (down_pos d) x.1 u) (rise_over S (down e) Q (down i)) u)
rise f m e n d nan s x h b = elim b [ ]
rise f m e n d (inf _) s x h b = elim b [ ]

-- ---- down from S / s towards X / x, by Q / q
fall_some : (S s X x Q q : ℕ) → 0 < x → Q * (s * x) + X * s * q ≤ S * x * q → Q * s ≤ S * q
fall_some S s X x Q q P h = le_of_mul-le-mul_right {k = x} (product h) P
  where
    product : Q * (s * x) + X * s * q ≤ S * x * q → Q * s * x ≤ S * q * x
    product h = omega arith

fall_over : (S s X x Q q : ℕ) → Q * s ≤ S * q → Q * (s * x) + X * s * q ≤ S * x * q → X * (s * q) ≤ (S * q - Q * s) * x
fall_over S s X x Q q h k = go (S * q - Q * s) (sub-add_cancel h)
  where
    go : (p : ℕ) → p + Q * s ≡ S * q → X * (s * q) ≤ p * x
    go p e =
        let g : (p + Q * s) * x ≡ S * q * x = ap (λ (z : ℕ). z * x) e in
        omega arith

fall_under : (S s Q q : ℕ) → (S * q - Q * s) * s ≤ S * (s * q)
fall_under S s Q q = le_trans (mul-le-mul_right s (sub-le (S * q) (Q * s))) (product S s q)
  where
    product : (S s q : ℕ) → S * q * s ≤ S * (s * q)
    product S s q = omega arith

fall_one : (S s Q q : ℕ) → S ≤ s → S * q - Q * s ≤ s * q
fall_one S s Q q h = le_trans (sub-le (S * q) (Q * s)) (mul-le-mul_right q h)

fall : (f : Format) (m : ℕ) (e : ℤ) (n : ℕ) (d : ℤ) (y : Float) → Fill f (fin false m e) → Fill f (fin false n d)
    → n * up d * down e ≤ m * up e * down d → AtMost y true (m * up e * down d - n * up d * down e) (down e * down d)
    → Between f (fin false n d) (fin false m e) (add f (fin false m e) y)
fall f m e n d (fin false k i) s x h b = absurd (false≢true b.0)
fall f m e n d (fin true k i) s x h b =
    let S = m * up e in
    let X = n * up d in
    let Q = k * up i in
    let w : Q * (down e * down d) + X * down e * down i ≤ S * down d * down i =
    apart Q (down i) (S * down d) (X * down e) (down e * down d) h b.1 in
    let g : Q * down e ≤ S * down i = fall_some S (down e) X (down d) Q (down i) (down_pos d) w in
    subst (λ (z : Float). Between f (fin false n d) (fin false m e) z)
    (sym (add_is f false m e true k i ∙ minus f (S * down i) (Q * down e) (down e * down i) g))
    (between f n d m e (S * down i - Q * down e) (down e * down i) x.0 s.0 (mul-pos (down_pos e) (down_pos i))
    (fall_one S (down e) Q (down i) s.1) (fall_over S (down e) X (down d) Q (down i) g w) (fall_under S (down e) Q (down i)))
fall f m e n d nan s x h b = elim b [ ]
fall f m e n d (inf _) s x h b = elim b [ ]

-- ---- the smoothed fill
abbrev pub smooth : Format → Float → Float → Float
smooth f s x = add f s (part f s x)

pub smooth_between : (f : Format) (s x : Float) → Fill f s → Fill f x → Between f s x (smooth f s x) ⊎ Between f x s (smooth f s x)
smooth_between f (fin false m e) (fin false n d) s x =
    elim (le_or_lt (m * up e * down d) (n * up d * down e)) [
      | inl h ↦ inl (rise f m e n d (part f (fin false m e) (fin false n d)) s x h (part_up f m e n d x.1 h))
      | inr h ↦ inr (fall f m e n d (part f (fin false m e) (fin false n d)) s x (le_of_lt h) (part_down f m e n d s.1 h))
    ]
smooth_between f nan _ s x = elim s [ ]
smooth_between f (inf _) _ s x = elim s [ ]
smooth_between f (fin false m e) nan s x = elim x [ ]
smooth_between f (fin false m e) (inf _) s x = elim x [ ]
smooth_between f (fin false m e) (fin true n d) s x = elim x [ ]
smooth_between f (fin true m e) _ s x = elim s [ ]

pub smooth_fill : (f : Format) (s x : Float) → Fill f s → Fill f x → Fill f (smooth f s x)
smooth_fill f s x p q = elim (smooth_between f s x p q) [ inl b ↦ b.fill | inr b ↦ b.fill ]

-- ---- -0 is smoothed as +0 is
no_less : (a u b : ℕ) → a + 0 * u * b ≡ a - 0 * u * b
no_less a u b = omega arith

none_under : (u b a : ℕ) → 0 * u * b ≤ a
none_under u b a = omega arith

sub_zeros : (f : Format) (n : ℕ) (d e : ℤ) → sub f (fin false n d) (fin true 0 e) ≡ sub f (fin false n d) (fin false 0 e)
sub_zeros f n d e =
    let a = n * up d * down e in
    let b = 0 * up e * down d in
    let c = down d * down e in
    sub_is f n d true 0 e
    ∙ plus f a b c
    ∙ ap (λ (z : ℕ). round f false z c) (no_less a (up e) (down d))
    ∙ sym (minus f a b c (none_under (up e) (down d) a))
    ∙ sym (sub_is f n d false 0 e)

minus_zero_plus : (f : Format) (b c : ℕ) → sum f true 0 false b c ≡ round f false b c
unfolding sum
minus_zero_plus f zero c = refl
minus_zero_plus f (suc b) c = go (ltb 0 (suc b)) (lt→ltb 0 (suc b) (zero-lt-suc b))
  where
    go : (t : Bool) → T t → cond t (round f false (suc b - 0) c) (round f (ltb (suc b) 0) (0 - suc b) c) ≡ round f false (suc b) c
    go true k = ap (λ (z : ℕ). round f false z c) (sub-zero (suc b))
    go false k = elim k [ ]

none_more : (a u b : ℕ) → 0 * u * b + a ≡ a
none_more a u b = omega arith

add_zeros : (f : Format) (e : ℤ) (y : Float) (a c : ℕ) → AtMost y false a c → add f (fin true 0 e) y ≡ add f (fin false 0 e) y
add_zeros f e (fin true k i) a c b = absurd (true≢false b.0)
add_zeros f e (fin false k i) a c b =
    let q = k * up i * down e in
    let z = 0 * up e * down i in
    let c = down e * down i in
    add_is f true 0 e false k i
    ∙ ap (λ (x : ℕ). sum f true x false q c) (none_under_is (up e) (down i))
    ∙ minus_zero_plus f q c
    ∙ ap (λ (x : ℕ). round f false x c) (sym (none_more q (up e) (down i)))
    ∙ sym (plus f z q c)
    ∙ sym (add_is f false 0 e false k i)
  where
    none_under_is : (u b : ℕ) → 0 * u * b ≡ 0
    none_under_is u b = omega arith
add_zeros f e nan a c b = elim b [ ]
add_zeros f e (inf _) a c b = elim b [ ]

pub smooth_zeros : (f : Format) (e : ℤ) (x : Float) → Fill f x → smooth f (fin true 0 e) x ≡ smooth f (fin false 0 e) x
smooth_zeros f e (fin false n d) h =
    ap (λ (z : Float). add f (fin true 0 e) (mul f z (fin false 1 (negsuc 1)))) (sub_zeros f n d e)
    ∙ add_zeros f e (part f (fin false 0 e) (fin false n d)) (n * up d * down e - 0 * up e * down d) (down d * down e)
    (part_up f 0 e n d h.1 (none_under (up e) (down d) (n * up d * down e)))
smooth_zeros f e nan h = elim h [ ]
smooth_zeros f e (inf _) h = elim h [ ]
smooth_zeros f e (fin true n d) h = elim h [ ]

-- What rounding up gives: the least multiple at or above, and the least number of whole pages. All follows from the two bounds on
-- a quotient: n / p * p ≤ n < n / p * p + p. Assumes nothing.
use Prim.Native.Nat.{ℕ, zero, suc, ◌+◌, ◌-◌, ◌*◌, ◌/◌, ◌%◌, ◌≤◌, ◌<◌, min}
use mathlib.Core.Path.{◌≡◌, ap}
use mathlib.Core.Logic.{⊎_elim}
use native.Mathlib.Nat.{div-mul-le_self, lt-div-mul-add, div-lt_iff_lt-mul, le-div_iff_mul-le, div-zero, mul-mod_left, suc-mul, div-add-mod', mod-lt, lt_of_mul-lt-mul_right, pos_of_ne-zero}
use native.Mathlib.Nat.{eq-zero-or-pos, le-mul_of_pos_right, mul-le-mul_right}
use native.Mathlib.Numerals.{add-one}
use native.Mathlib.Omega.{arith}
use Rattle.std.proofs.lemmas.Grind.{div_ceil_times}
use Rattle.arith.specs.Round.{round_up, pages_for, align_up, OnEvery}

-- at most x + (p - 1), for any p
pub round_under : (x p : ℕ) → round_up x p ≤ x + (p - 1)
round_under x p = div-mul-le_self (x + (p - 1)) p

-- it is so many multiples of p as it takes to reach x
pub round_is : (x p n : ℕ) → n ≡ pages_for x p → n * p ≡ round_up x p
round_is x p n e = ap (λ (k : ℕ). k * p) e

pub multiples_under : (x p n : ℕ) → n ≡ pages_for x p → n * p ≤ x + (p - 1)
multiples_under x p n e = omega (arith, round_is x p n e, round_under x p)

-- the multiple is at or above x, and by less than p
pub round_ge : (x p : ℕ) → 0 < p → x ≤ round_up x p
round_ge x p h = omega (arith, lt-div-mul-add {a = x + (p - 1)} h)

pub round_lt : (x p : ℕ) → 0 < p → round_up x p < x + p
round_lt x p h = omega (arith, div-mul-le_self (x + (p - 1)) p)

pub round_multiple : (x p : ℕ) → round_up x p % p ≡ 0
round_multiple x p = mul-mod_left ((x + (p - 1)) / p) p

-- k pages of p bytes hold what is at most k * p
pub pages_least : (x p k : ℕ) → 0 < p → x ≤ k * p → pages_for x p ≤ k
pages_least x p k h g =
    let q : (x + (p - 1)) / p < k + 1 = (div-lt_iff_lt-mul h).1 (rw (add-one k, suc-mul k p) (omega arith)) in
    omega arith

-- what `div_ceil` gives, which says the quotient rounded up by the rest
pub ceil_is_pages : (x p k : ℕ) → 0 < p → k ≡ x / p + min 1 (x % p) → k ≡ pages_for x p
ceil_is_pages x p k h e =
    let b = div_ceil_times x p h in
    let up = pages_least x p (x / p + min 1 (x % p)) h b.0 in
    let down : (x / p + min 1 (x % p)) * p ≤ x + (p - 1) = omega (arith, b.1) in
    omega (arith, (le-div_iff_mul-le h).1 down)

-- no multiple of p at or above x is below it
pub round_least : (x p k : ℕ) → 0 < p → x ≤ k * p → round_up x p ≤ k * p
round_least x p k h g = mul-le-mul_right p (pages_least x p k h g)

-- no pages of no size
pub pages_zero : (bytes page : ℕ) → page ≡ 0 → pages_for bytes page ≡ 0
pages_zero bytes page e = rw (e, div-zero)

-- bytes that are not none need a page
pub pages_some : (bytes page : ℕ) → 0 < page → 0 < bytes → 0 < pages_for bytes page
pages_some bytes page h b = (le-div_iff_mul-le {k = page} {x = 1} {y = bytes + (page - 1)} h).1 (omega arith)

-- never more pages than bytes
pub pages_under : (bytes page : ℕ) → pages_for bytes page ≤ bytes
pages_under bytes page =
    ⊎_elim (λ (e : page ≡ 0). omega (arith, pages_zero bytes page e))
    (λ (h : 0 < page). pages_least bytes page bytes h (le-mul_of_pos_right bytes h))
    (eq-zero-or-pos page)

-- ---- the first multiple of n at or above x, where any number is one of 0

pub on_every : (n x : ℕ) → x % n ≡ 0 → OnEvery n x
on_every zero x e = tt
on_every (suc n) x e = e

pub every_on : (n x : ℕ) → 0 < n → OnEvery n x → x % n ≡ 0
every_on zero x h e = absurd (omega arith)
every_on (suc n) x h e = e

pub align_ge : (n x : ℕ) → x ≤ align_up n x
align_ge zero x = omega arith
align_ge (suc n) x = round_ge x (suc n) (omega arith)

pub align_on : (n x : ℕ) → OnEvery n (align_up n x)
align_on zero x = tt
align_on (suc n) x = round_multiple x (suc n)

pub align_least : (n x y : ℕ) → x ≤ y → OnEvery n y → align_up n x ≤ y
align_least zero x y l e = l
align_least (suc n) x y l e =
    let z : y / suc n * suc n ≡ y = omega (arith, div-add-mod' y (suc n)) in
    omega (arith, round_least x (suc n) (y / suc n) (omega arith) (omega arith))

-- how far it is: nothing where n is 0 or x is one; else what x is over the multiple before it lacks so much of n
pub gap_zero : (n x : ℕ) → n ≡ 0 → align_up n x - x ≡ 0
gap_zero n x e = rw e (omega arith)

pub gap_none : (n x : ℕ) → x % n ≡ 0 → align_up n x - x ≡ 0
gap_none n x e = omega (arith, align_least n x x (omega arith) (on_every n x e))

pub gap_over : (n x : ℕ) → 0 < n → ¬ (x % n ≡ 0) → align_up n x - x ≡ n - x % n
gap_over zero x h e = absurd (omega arith)
gap_over (suc n) x h e =
    let q = x / suc n in
    let z : q * suc n + x % suc n ≡ x = div-add-mod' x (suc n) in
    let o : 0 < x % suc n = pos_of_ne-zero e in
    let l : q < pages_for x (suc n) = lt_of_mul-lt-mul_right (suc n) (omega (arith, round_ge x (suc n) h)) in
    omega (
      arith,
      mod-lt x h,
      suc-mul q (suc n),
      mul-le-mul_right (suc n) l,
      align_least (suc n) x (suc q * suc n) (omega (arith, mod-lt x h, suc-mul q (suc n))) (mul-mod_left (suc q) (suc n)),
    )

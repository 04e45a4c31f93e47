-- Laws of decimal numbers: each is the number without its last digit, and that digit; and how many digits there are. Assumes nothing.
use mathlib.Core.Path.{◌≡◌, refl, ap}
use Prim.Native.Nat.{ℕ, zero, suc, ◌+◌, ◌*◌, ◌/◌, ◌%◌, ◌≤◌, ◌<◌}
use mathlib.Core.List.{List, [], ◌∷◌, ◌++◌}
use mathlib.Core.Bool.{Bool, true, false, cond}
use native.Mathlib.Omega.{arith}
use native.Mathlib.Decide.{dec_lt}
use lib.ListN.{length, length-append}
use lib.Dec.{ltb}
use borrow.Author.Tests.{lt-ltb, le-ltb, ltb-false}
use Rattle.text.specs.Decimal.{digits, decimal, line_of}

-- ---- decimal

fuel_go : (k j n : ℕ) (b : Bool) → ltb n 10 ≡ b → (10 ≤ n → digits k (n / 10) ≡ digits j (n / 10)) → cond b ((48 + n) ∷ []) (digits k (n / 10) ++ ((48 + n % 10) ∷ [])) ≡ cond b ((48 + n) ∷ []) (digits j (n / 10) ++ ((48 + n % 10) ∷ []))
fuel_go k j n true e f = refl
fuel_go k j n false e f = ap (λ (d : List ℕ). d ++ ((48 + n % 10) ∷ [])) (f (ltb-false n 10 e))

pub fuel : (k j n : ℕ) → n < k → n < j → digits k n ≡ digits j n
unfolding digits
fuel zero j n h g = absurd (omega arith)
fuel (suc k) zero n h g = absurd (omega arith)
fuel (suc k) (suc j) n h g = fuel_go k j n (ltb n 10) refl (λ big. fuel k j (n / 10) (omega arith) (omega arith))

pub decimal_small : (n : ℕ) → n < 10 → decimal n ≡ (48 + n) ∷ []
unfolding decimal digits
decimal_small n h = rw (lt-ltb n 10 h)

pub decimal_big : (n : ℕ) → 10 ≤ n → decimal n ≡ decimal (n / 10) ++ ((48 + n % 10) ∷ [])
unfolding decimal digits
decimal_big n h = rw (le-ltb n 10 h) (ap (λ (d : List ℕ). d ++ ((48 + n % 10) ∷ [])) (fuel n (suc (n / 10)) (n / 10) (omega arith) (omega arith)))

pub length_small : (n : ℕ) → n < 10 → length (decimal n) ≡ 1
length_small n h = rw (decimal_small n h)

pub length_big : (n : ℕ) → 10 ≤ n → length (decimal n) ≡ length (decimal (n / 10)) + 1
length_big n h = rw (decimal_big n h, length-append)

-- numbers below b have at most m digits
Within : ℕ → ℕ → Type 0
Within m b = (n : ℕ) → n < b → length (decimal n) ≤ m

one_digit : Within 1 10
unfolding Within
one_digit n h = omega (arith, length_small n h)

more_digits : (m b : ℕ) → 1 ≤ m → Within m b → Within (m + 1) (b * 10)
unfolding Within
more_digits m b z f n h = go (dec_lt n 10)
  where
    go : Dec (n < 10) → length (decimal n) ≤ m + 1
    go (yes l) = omega (arith, length_small n l)
    go (no l) =
        let g : 10 ≤ n = omega arith in
        omega (arith, length_big n g, f (n / 10) (omega arith))

pub length_decimal : (n : ℕ) → n < 4294967296 → length (decimal n) ≤ 10
unfolding Within
length_decimal n h =
    more_digits 9 1000000000 (omega arith)
    (more_digits 8 100000000 (omega arith)
    (more_digits 7 10000000 (omega arith)
    (more_digits 6 1000000 (omega arith)
    (more_digits 5 100000 (omega arith)
    (more_digits 4 10000 (omega arith)
    (more_digits 3 1000 (omega arith)
    (more_digits 2 100 (omega arith)
    (more_digits 1 10 (omega arith)
    one_digit))))))))
    n (omega arith)

pub length_line : (key : List ℕ) (n : ℕ) → length (line_of key n) ≡ length key + length (decimal n) + 1
unfolding line_of
length_line key n = simp length-append (omega arith)

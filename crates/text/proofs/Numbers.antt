-- The number reader reads exactly the decimal numbers below 2 ^ 32: it reads each back, and what it reads is one. Assumes nothing.
use mathlib.Core.Path.{◌≡◌, refl, ◌∙◌, ap}
use Prim.Native.Nat.{ℕ, zero, suc, ◌+◌, ◌-◌, ◌*◌, ◌/◌, ◌%◌, ◌≤◌, ◌<◌}
use mathlib.Core.List.{List, [], ◌∷◌, ◌++◌, append-nil}
use mathlib.Core.Bool.{Bool, true, false, cond}
use native.Mathlib.Omega.{arith}
use native.Mathlib.Decide.{dec_lt}
use lib.ListN.{length, get_or, get_or-append, length-append}
use lib.Seq.{append_snoc}
use lib.Dec.{ltb, eqb}
use borrow.Author.Tests.{le-ltb, ltb-false, ne_eqb, eqb-false}
use Rattle.std.specs.Prelude.{Option, Some, None}
use Rattle.std.proofs.lemmas.Option.{none-some, same_Some}
use Rattle.text.specs.Lines.{number_after, number_of}
use Rattle.text.specs.Decimal.{decimal}
use Rattle.text.proofs.Digits.{decimal_small, decimal_big}

-- ---- one digit

acc_one : (a b : ℕ) → 48 ≤ b → b ≤ 57 → a * 10 + (b - 48) ≤ 4294967295 → number_after a (b ∷ []) ≡ Some (a * 10 + (b - 48))
unfolding number_after
acc_one a b l m o = rw (le-ltb b 48 l, le-ltb 57 b m, le-ltb 4294967295 (a * 10 + (b - 48)) o)

then_num : Option ℕ → (ℕ → Option ℕ) → Option ℕ
then_num (Some v) f = f v
then_num None f = None

acc_go : (t u w : Bool) (x y : Option ℕ) (f : ℕ → Option ℕ) → x ≡ then_num y f → cond t None (cond u None (cond w None x)) ≡ then_num (cond t None (cond u None (cond w None y))) f
unfolding then_num
acc_go true u w x y f e = refl
acc_go false true w x y f e = refl
acc_go false false true x y f e = refl
acc_go false false false x y f e = e

acc_append : (xs ys : List ℕ) (a : ℕ) → number_after a (xs ++ ys) ≡ then_num (number_after a xs) (λ v. number_after v ys)
unfolding number_after then_num
acc_append [] ys a = refl
acc_append (x ∷ xs) ys a = acc_go (ltb x 48) (ltb 57 x) (ltb 4294967295 (a * 10 + (x - 48))) _ _ _ (acc_append xs ys (a * 10 + (x - 48)))

-- ---- a number is read back. k bounds the number of digits

read_back : (k n : ℕ) → n < k → n ≤ 4294967295 → number_after 0 (decimal n) ≡ Some n
unfolding then_num
read_back zero n h o = absurd (omega arith)
read_back (suc k) n h o = go (dec_lt n 10) (λ g. read_back k (n / 10) (omega arith) (omega arith))
  where
    go : Dec (n < 10) → (10 ≤ n → number_after 0 (decimal (n / 10)) ≡ Some (n / 10)) → number_after 0 (decimal n) ≡ Some n
    go (yes l) f =
        let e : 0 * 10 + (48 + n - 48) ≡ n = omega arith in
        rw (decimal_small n l) (acc_one 0 (48 + n) (omega arith) (omega arith) (omega arith) ∙ ap Some e)
    go (no l) f =
        let e : n / 10 * 10 + (48 + n % 10 - 48) ≡ n = omega arith in
        rw (decimal_big n (omega arith), acc_append, f (omega arith))
        (acc_one (n / 10) (48 + n % 10) (omega arith) (omega arith) (omega arith) ∙ ap Some e)

pub digits_some : (k n : ℕ) → n < k → 0 < length (decimal n)
digits_some zero n h = absurd (omega arith)
digits_some (suc k) n h = go (dec_lt n 10)
  where
    go : Dec (n < 10) → 0 < length (decimal n)
    go (yes l) = rw (decimal_small n l) (omega arith)
    go (no l) = rw (decimal_big n (omega arith), length-append) (omega arith)

first_digit : (k n : ℕ) → n < k → 0 < n → 48 < get_or (decimal n) 0 0
first_digit zero n h z = absurd (omega arith)
first_digit (suc k) n h z = go (dec_lt n 10) (λ g. first_digit k (n / 10) (omega arith) (omega arith))
  where
    go : Dec (n < 10) → (10 ≤ n → 48 < get_or (decimal (n / 10)) 0 0) → 48 < get_or (decimal n) 0 0
    go (yes l) f = rw (decimal_small n l) (omega arith)
    go (no l) f = rw (decimal_big n (omega arith), get_or-append (decimal (n / 10)) _ 0 0 (digits_some (suc (n / 10)) (n / 10) (omega arith))) (f (omega arith))

lead : (xs : List ℕ) → 0 < length xs → (1 < length xs → get_or xs 0 0 ≡ 48 → ⊥) → number_of xs ≡ number_after 0 xs
unfolding number_of
lead [] h f = absurd (omega arith)
lead (x ∷ []) h f = refl
lead (x ∷ y ∷ ys) h f = rw (ne_eqb x 48 (f (omega arith)))

one_long : (n : ℕ) → 1 < length (decimal n) → 10 ≤ n
one_long n h = go (dec_lt n 10)
  where
    go : Dec (n < 10) → 10 ≤ n
    go (yes l) = absurd (omega (arith, ap length (decimal_small n l)))
    go (no l) = omega arith

pub number_complete : (n : ℕ) → n < 4294967296 → number_of (decimal n) ≡ Some n
number_complete n h =
    lead (decimal n) (digits_some (suc n) n (omega arith)) (λ l e. omega (arith, first_digit (suc n) n (omega arith) (omega (arith, one_long n l))))
    ∙ read_back (suc n) n (omega arith) (omega arith)

-- ---- what is read is the decimal number

-- what three tests that all passed say
record Digit (a b : ℕ) : Type 0 where
  low : 48 ≤ b
  high : b ≤ 57
  fits : a * 10 + (b - 48) ≤ 4294967295

step_go : (a b n : ℕ) (x : Option ℕ) (t u w : Bool) → ltb b 48 ≡ t → ltb 57 b ≡ u → ltb 4294967295 (a * 10 + (b - 48)) ≡ w → cond t None (cond u None (cond w None x)) ≡ Some n → Digit a b × (x ≡ Some n)
step_go a b n x true u w e f g h = absurd (none-some n h)
step_go a b n x false true w e f g h = absurd (none-some n h)
step_go a b n x false false true e f g h = absurd (none-some n h)
step_go a b n x false false false e f g h = (record { low = ltb-false b 48 e; high = ltb-false 57 b f; fits = ltb-false 4294967295 (a * 10 + (b - 48)) g }, h)

step : (a b n : ℕ) (bs : List ℕ) → number_after a (b ∷ bs) ≡ Some n → Digit a b × (number_after (a * 10 + (b - 48)) bs ≡ Some n)
unfolding number_after
step a b n bs h = step_go a b n (number_after (a * 10 + (b - 48)) bs) (ltb b 48) (ltb 57 b) (ltb 4294967295 (a * 10 + (b - 48))) refl refl refl h

acc_sound : (bs : List ℕ) (a n : ℕ) → 0 < a → a ≤ 4294967295 → number_after a bs ≡ Some n → (decimal n ≡ decimal a ++ bs) × (n ≤ 4294967295)
unfolding number_after
acc_sound [] a n z o h = let e : a ≡ n = same_Some a n h in (rw (append-nil, e), omega arith)
acc_sound (b ∷ bs) a n z o h =
    let s = step a b n bs h in
    let d = s.0 in
    let l = d.low in
    let m = d.high in
    let f = d.fits in
    let r = acc_sound bs (a * 10 + (b - 48)) n (omega arith) f s.1 in
    let p : (a * 10 + (b - 48)) / 10 ≡ a = omega arith in
    let q : 48 + (a * 10 + (b - 48)) % 10 ≡ b = omega arith in
    (r.0 ∙ ap (λ (x : List ℕ). x ++ bs) (decimal_big (a * 10 + (b - 48)) (omega arith)) ∙ rw (p, q) (append_snoc (decimal a) b bs), r.1)

one_sound : (b n : ℕ) → number_after 0 (b ∷ []) ≡ Some n → (decimal n ≡ b ∷ []) × (n ≤ 4294967295)
unfolding number_after
one_sound b n h =
    let s = step 0 b n [] h in
    let l = s.0.low in
    let m = s.0.high in
    let e : 0 * 10 + (b - 48) ≡ n = same_Some (0 * 10 + (b - 48)) n s.1 in
    let f : 48 + n ≡ b = omega arith in
    (decimal_small n (omega arith) ∙ rw f, omega arith)

many_go : (b c n : ℕ) (bs : List ℕ) (t : Bool) → eqb b 48 ≡ t → cond t None (number_after 0 (b ∷ c ∷ bs)) ≡ Some n → (decimal n ≡ b ∷ c ∷ bs) × (n ≤ 4294967295)
many_go b c n bs true e h = absurd (none-some n h)
many_go b c n bs false e h =
    let s = step 0 b n (c ∷ bs) h in
    let l = s.0.low in
    let m = s.0.high in
    let ne = eqb-false b 48 e in
    let p : 0 * 10 + (b - 48) ≡ b - 48 = omega arith in
    let q : 48 + (b - 48) ≡ b = omega arith in
    let r = acc_sound (c ∷ bs) (b - 48) n (omega arith) (omega arith) (rw p at s.1) in
    (r.0 ∙ rw (decimal_small (b - 48) (omega arith), q), r.1)

pub number_sound : (xs : List ℕ) (n : ℕ) → number_of xs ≡ Some n → (decimal n ≡ xs) × (n ≤ 4294967295)
unfolding number_of
number_sound [] n h = absurd (none-some n h)
number_sound (b ∷ []) n h = one_sound b n h
number_sound (b ∷ c ∷ bs) n h = many_go b c n bs (eqb b 48) refl h

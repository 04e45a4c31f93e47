-- Powers of two: `level` is the least number to whose power two reaches k, so the level of 2^j is j. Assumes nothing.
use Prim.Native.Nat.{ℕ, zero, suc, ◌+◌, ◌*◌, ◌/◌, ◌^◌, ◌≤◌, ◌<◌}
use mathlib.Core.Path.{◌≡◌, refl, sym, ap}
use mathlib.Core.Logic.{◌⊎◌, inl, inr, ⊎_elim}
use mathlib.Core.Bool.{Bool, true, false, cond}
use native.Mathlib.Omega.{arith}
use native.Mathlib.Nat.{eq-or-lt_of_le}
use lib.Pow.{pow_pos, pow_mono}
use lib.Dec.{leb}
use borrow.Author.Tests.{leb-true, leb-false, eqb-true, eq-eqb}
use Rattle.arith.specs.Layout.{largest}
use Rattle.arith.proofs.Laws.Layout.{largest_under, largest_most, largest_passes}
use Rattle.arith.specs.Power.{level_from, level, power_up, is_power}

-- ---- powers in order

pub some_power : (j : ℕ) → 1 ≤ 2 ^ j
some_power j = pow_pos j

pub double : (j : ℕ) → 2 ^ suc j ≡ 2 ^ j + 2 ^ j
double j = omega arith

pub half : (j : ℕ) → 2 ^ suc j / 2 ≡ 2 ^ j
half j = omega (arith, double j)

pub power_le : (i j : ℕ) → i ≤ j → 2 ^ i ≤ 2 ^ j
power_le i j h = pow_mono h

pub le_power : (i j : ℕ) → 2 ^ i ≤ 2 ^ j → i ≤ j
le_power i zero h = go i h
  where
    go : (i : ℕ) → 2 ^ i ≤ 2 ^ 0 → i ≤ 0
    go zero h = omega arith
    go (suc i) h = absurd (omega (arith, double i, some_power i))
le_power zero (suc j) h = omega arith
le_power (suc i) (suc j) h = omega (arith, le_power i j (omega (arith, double i, double j)))

below : (k : ℕ) → k < 2 ^ k
below zero = omega arith
below (suc k) = omega (arith, below k, double k)

-- ---- the level

enough_from : (n j k : ℕ) → k ≤ 2 ^ (j + n) → k ≤ 2 ^ level_from n j k
unfolding level_from
enough_from zero j k h = let e : j + 0 ≡ j = omega arith in rw e at h
enough_from (suc n) j k h = go (leb k (2 ^ j)) refl (enough_from n (suc j) k (let x : suc j + n ≡ j + suc n = omega arith in rw x h))
  where
    go : (b : Bool) → leb k (2 ^ j) ≡ b → k ≤ 2 ^ level_from n (suc j) k → k ≤ 2 ^ cond b j (level_from n (suc j) k)
    go true e ih = leb-true k (2 ^ j) e
    go false e ih = ih

least_from : (n j k i : ℕ) → j ≤ i → k ≤ 2 ^ i → level_from n j k ≤ i
unfolding level_from
least_from zero j k i l h = l
least_from (suc n) j k i l h = go (leb k (2 ^ j)) refl (λ q. least_from n (suc j) k i q h)
  where
    go : (b : Bool) → leb k (2 ^ j) ≡ b → (j < i → level_from n (suc j) k ≤ i) → cond b j (level_from n (suc j) k) ≤ i
    go true e ih = l
    go false e ih =
        ⊎_elim (λ (q : j ≡ i). absurd (let x : k ≤ 2 ^ j = rw q h in omega (arith, leb-false k (2 ^ j) e)))
        (λ (q : j < i). ih q)
        (eq-or-lt_of_le l)

-- THE LEAST POWER OF TWO AT OR ABOVE k
pub level_enough : (k : ℕ) → k ≤ power_up k
level_enough k = enough_from k 0 k (let e : 0 + k ≡ k = omega arith in rw e (omega (arith, below k)))

pub level_least : (k i : ℕ) → k ≤ 2 ^ i → level k ≤ i
level_least k i h = least_from k 0 k i (omega arith) h

pub level_power : (j : ℕ) → level (2 ^ j) ≡ j
level_power j = omega (arith, level_least (2 ^ j) j (omega arith), le_power j (level (2 ^ j)) (level_enough (2 ^ j)))

pub is_power_lem : (j : ℕ) → is_power (2 ^ j) ≡ true
is_power_lem j = eq-eqb (power_up (2 ^ j)) (2 ^ j) (ap (λ (i : ℕ). 2 ^ i) (level_power j))

pub power_is : (n : ℕ) → is_power n ≡ true → n ≡ 2 ^ level n
power_is n e = sym (eqb-true (power_up n) n e)

pub power_some : (n : ℕ) → is_power n ≡ true → 1 ≤ n
power_some n e = omega (arith, power_is n e, some_power (level n))

pub powers_of : (k : ℕ) → is_power (power_up k) ≡ true
powers_of k = is_power_lem (level k)

-- the next power is the double, and between the two there is none
pub next_power : (n : ℕ) → is_power n ≡ true → is_power (n * 2) ≡ true
next_power n e =
    let d : n * 2 ≡ 2 ^ suc (level n) = omega (arith, power_is n e, double (level n)) in
    rw d (is_power_lem (suc (level n)))

pub none_between : (n m : ℕ) → is_power n ≡ true → is_power m ≡ true → m < n * 2 → m ≤ n
none_between n m e f h =
    let a = power_is n e in
    let b = power_is m f in
    ⊎_elim (λ (q : level m ≤ level n). omega (arith, power_le (level m) (level n) q))
    (λ (q : level n < level m). absurd (omega (arith, power_le (suc (level n)) (level m) q, double (level n))))
    (by_order (level m) (level n))
  where
    by_order : (x y : ℕ) → (x ≤ y) ⊎ (y < x)
    by_order zero y = inl (omega arith)
    by_order (suc x) zero = inr (omega arith)
    by_order (suc x) (suc y) = ⊎_elim (λ (q : x ≤ y). inl (omega arith)) (λ (q : y < x). inr (omega arith)) (by_order x y)

-- a power of two at or above k that is 1, or whose half is below k, is the least
pub least_is : (k b : ℕ) → is_power b ≡ true → k ≤ b → (b ≡ 1) ⊎ (b < k * 2) → b ≡ power_up k
least_is k b e h o =
    let p = level_enough k in
    let q : k ≤ 2 ^ level b = omega (arith, power_is b e) in
    let m : power_up k ≤ b = omega (arith, power_is b e, power_le (level k) (level b) (level_least k (level b) q)) in
    ⊎_elim (λ (q : b ≡ 1). omega (arith, some_power (level k)))
    (λ (q : b < k * 2). omega (arith, none_between (power_up k) b (powers_of k) e (omega arith))) o

-- and one at or below n whose double is above it is the largest
pub largest_is : (n b : ℕ) → is_power b ≡ true → b ≤ n → n < b * 2 → b ≡ largest n is_power
largest_is n b e h o =
    let under = largest_under n is_power in
    let most = largest_most n is_power b h e in
    let passes = largest_passes n is_power (omega (arith, power_some b e)) in
    omega (arith, none_between b (largest n is_power) e passes (omega arith))

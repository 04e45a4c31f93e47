-- The tests over a list, on lists that are made of others: appended, padded, with stronger tests; and neighbours against all pairs.
-- Assumes nothing.
use Prim.Native.Nat.{ℕ, zero, suc, ◌+◌, ◌≤◌}
use mathlib.Core.Path.{◌≡◌, refl, sym, ap, ◌∙◌}
use mathlib.Core.Bool.{Bool, true, false, cond, ◌&&◌, ◌||◌, and-true, and_assoc, or_assoc}
use mathlib.Core.List.{List, [], ◌∷◌, ◌++◌}
use native.Mathlib.Omega.{arith}
use lib.ListN.{length, replicate}
use Rattle.manager.specs.Lists.{every, any, count}
use Rattle.manager.proofs.Laws.Lists.{and_first, and_second}

-- what holds of both outcomes of a test holds of the test
pub by_case : (b : Bool) (Q : Bool → Type 0) → (b ≡ true → Q true) → (b ≡ false → Q false) → Q b
by_case true Q f g = f refl
by_case false Q f g = g refl

pub and_both : (a b : Bool) → a ≡ true → b ≡ true → (a && b) ≡ true
and_both a b e f = rw (e, f)

pub or_first : (a b : Bool) → (a || b) ≡ false → a ≡ false
or_first true b e = e
or_first false b e = refl

pub or_second : (a b : Bool) → (a || b) ≡ false → b ≡ false
or_second true b e = absurd (let z : ◌≡◌ {A = ℕ} 0 1 = cc in omega arith)
or_second false b e = e

module _ {A : Type 0} where
  -- a weaker test
  pub every_imp : (t u : A → Bool) → ((x : A) → t x ≡ true → u x ≡ true) → (l : List A) → every t l ≡ true → every u l ≡ true
  unfolding every
  every_imp t u f [] e = refl
  every_imp t u f (x ∷ l) e =
      and_both (u x) (every u l) (f x (and_first (t x) (every t l) e)) (every_imp t u f l (and_second (t x) (every t l) e))

  -- the parts of a list
  pub every_append : (t : A → Bool) (a b : List A) → every t (a ++ b) ≡ (every t a && every t b)
  unfolding every
  every_append t [] b = refl
  every_append t (x ∷ a) b = ap (λ (v : Bool). t x && v) (every_append t a b) ∙ sym (and_assoc (t x) (every t a) (every t b))

  pub some_append : (t : A → Bool) (a b : List A) → any t (a ++ b) ≡ (any t a || any t b)
  unfolding any
  some_append t [] b = refl
  some_append t (x ∷ a) b = ap (λ (v : Bool). t x || v) (some_append t a b) ∙ sym (or_assoc (t x) (any t a) (any t b))

  -- a list with z behind it, any number of times
  pub every_same : (t : A → Bool) (z : A) → t z ≡ true → (k : ℕ) → every t (replicate k z) ≡ true
  unfolding every
  every_same t z e zero = refl
  every_same t z e (suc k) = rw e (every_same t z e k)

  pub every_behind : (t : A → Bool) (z : A) → t z ≡ true → (l : List A) (k : ℕ) → every t (l ++ replicate k z) ≡ every t l
  every_behind t z e l k = every_append t l (replicate k z) ∙ rw (every_same t z e k) (and-true (every t l))

-- how many pass a test
module _ {A : Type 0} (t : A → Bool) where
  pub count_append : (a b : List A) → count t (a ++ b) ≡ count t a + count t b
  unfolding count
  count_append [] b = omega arith
  count_append (x ∷ a) b =
      let ih = count_append a b in
      by_case (t x) (λ v. cond v (suc (count t (a ++ b))) (count t (a ++ b)) ≡ cond v (suc (count t a)) (count t a) + count t b)
      (λ e. omega arith) (λ e. ih)

  pub count_none : (z : A) → t z ≡ false → (k : ℕ) → count t (replicate k z) ≡ 0
  unfolding count
  count_none z e zero = refl
  count_none z e (suc k) = rw e (count_none z e k)

  pub count_most : (l : List A) → count t l ≤ length l
  unfolding count
  count_most [] = omega arith
  count_most (x ∷ l) =
      let ih = count_most l in
      by_case (t x) (λ v. cond v (suc (count t l)) (count t l) ≤ suc (length l)) (λ e. omega arith) (λ e. omega arith)

  pub count_all : (l : List A) → every t l ≡ true → count t l ≡ length l
  unfolding count every
  count_all [] e = refl
  count_all (x ∷ l) e = rw (and_first (t x) (every t l) e) (ap suc (count_all l (and_second (t x) (every t l) e)))

-- Tests over a whole list: what the definitions say of every slot, place or area; and what is on a list. Assumes nothing.
use Rattle.std.specs.Prelude.{ℕ, zero, suc, ◌≡◌, Bool, true, false, cond, ◌&&◌, ◌||◌, List, [], ◌∷◌, ◌⊎◌}

module _ {A : Type 0} where
  -- every element passes the test
  unfoldable pub every : (A → Bool) → List A → Bool
  every t [] = true
  every t (x ∷ xs) = t x && every t xs

  -- some element passes the test
  unfoldable pub any : (A → Bool) → List A → Bool
  any t [] = false
  any t (x ∷ xs) = t x || any t xs

  -- how many pass it
  unfoldable pub count : (A → Bool) → List A → ℕ
  count t [] = zero
  count t (x ∷ xs) = cond (t x) (suc (count t xs)) (count t xs)

  -- the place of the first element that passes the test; the list's length where none does
  unfoldable pub index_of : (A → Bool) → List A → ℕ
  index_of t [] = zero
  index_of t (x ∷ xs) = cond (t x) zero (suc (index_of t xs))

  -- every element passes the test with each of those behind it
  unfoldable pub pairwise : (A → A → Bool) → List A → Bool
  pairwise t [] = true
  pairwise t (x ∷ xs) = every (t x) xs && pairwise t xs

  -- every element passes the test with the one directly behind it
  unfoldable pub adjacent : (A → A → Bool) → List A → Bool
  adjacent t [] = true
  adjacent t (x ∷ []) = true
  adjacent t (x ∷ y ∷ xs) = t x y && adjacent t (y ∷ xs)

  -- an element is on a list
  unfoldable pub In : A → List A → Type 0
  In x [] = ⊥
  In x (y ∷ l) = (y ≡ x) ⊎ In x l

  -- no element is on it twice
  unfoldable pub Distinct : List A → Type 0
  Distinct [] = Unit {0}
  Distinct (x ∷ l) = (¬ In x l) × Distinct l

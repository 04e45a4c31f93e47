-- Numbers on a list, and lists without repeats, by tests: as many as there are numbers of a kind at most. Each test says what `In` and
-- `Distinct` say. Assumes nothing.
use Prim.Native.Nat.{ℕ, zero, suc, ◌≤◌, ◌<◌}
use mathlib.Core.Path.{◌≡◌, refl, sym, ◌∙◌}
use mathlib.Core.Bool.{Bool, true, false, not, cond, ◌&&◌, false≢true}
use mathlib.Core.List.{List, [], ◌∷◌}
use mathlib.Core.Logic.{◌⊎◌, inl, inr, ◌↔◌, ⊎_elim}
use native.Mathlib.Omega.{arith}
use lib.ListN.{length}
use lib.Dec.{eqb}
use borrow.Author.Tests.{eqb-true, eqb-false, eq-eqb, ne_eqb}
use Rattle.manager.specs.Lists.{any, In, Distinct}

-- whether a number is on a list
abbrev pub On : ℕ → List ℕ → Type 0
On x l = any (eqb x) l ≡ true

abbrev pub Off : ℕ → List ℕ → Type 0
Off x l = any (eqb x) l ≡ false

pub either : (b : Bool) → (b ≡ true) ⊎ (b ≡ false)
either true = inl refl
either false = inr refl

pub same_or_not : (x y : ℕ) → (x ≡ y) ⊎ (x ≡ y → ⊥)
same_or_not x y = ⊎_elim (λ e. inl (eqb-true x y e)) (λ e. inr (eqb-false x y e)) (either (eqb x y))

pub on_off : (x : ℕ) (l : List ℕ) → On x l → Off x l → ⊥
on_off x l p q = false≢true (sym q ∙ p)

pub on_nil : (x : ℕ) → On x [] → ⊥
unfolding any
on_nil x p = false≢true p

pub off_nil : (x : ℕ) → Off x []
unfolding any
off_nil x = refl

module _ (x y : ℕ) (l : List ℕ) where
  pub on_head : x ≡ y → On x (y ∷ l)
  unfolding any
  on_head e = rw (eq-eqb _ _ e)

  pub on_tail : On x l → On x (y ∷ l)
  unfolding any
  on_tail p = ⊎_elim (λ (e : eqb x y ≡ true). rw e) (λ (e : eqb x y ≡ false). rw e p) (either (eqb x y))

  pub on_cases : On x (y ∷ l) → (x ≡ y) ⊎ On x l
  unfolding any
  on_cases p = ⊎_elim (λ (e : eqb x y ≡ true). inl (eqb-true x y e)) (λ (e : eqb x y ≡ false). inr (rw e at p)) (either (eqb x y))

  pub off_cons : (x ≡ y → ⊥) → Off x l → Off x (y ∷ l)
  unfolding any
  off_cons n p = rw (ne_eqb _ _ n) p

  pub off_head : Off x (y ∷ l) → x ≡ y → ⊥
  off_head p e = on_off x (y ∷ l) (on_head e) p

  pub off_tail : Off x (y ∷ l) → Off x l
  off_tail p = ⊎_elim (λ q. absurd (on_off x (y ∷ l) (on_tail q) p)) (λ q. q) (either (any (eqb x) l))

-- not on a list, from that it can't be
pub off_by : (x : ℕ) (l : List ℕ) → (On x l → ⊥) → Off x l
off_by x l n = ⊎_elim (λ p. absurd (n p)) (λ q. q) (either (any (eqb x) l))

-- NO REPEATS
unfoldable pub distinct : List ℕ → Bool
distinct [] = true
distinct (x ∷ l) = not (any (eqb x) l) && distinct l

module _ (x : ℕ) (l : List ℕ) where
  pub distinct_cons : Off x l → distinct l ≡ true → distinct (x ∷ l) ≡ true
  unfolding distinct
  distinct_cons p q = rw (p, q)

  pub distinct_head : distinct (x ∷ l) ≡ true → Off x l
  unfolding distinct
  distinct_head p = ⊎_elim (λ (e : any (eqb x) l ≡ true). absurd (false≢true (rw e at p))) (λ e. e) (either (any (eqb x) l))

  pub distinct_tail : distinct (x ∷ l) ≡ true → distinct l ≡ true
  unfolding distinct
  distinct_tail p = rw (distinct_head p) at p

-- THE TESTS SAY WHAT IS MEANT
pub on_in : (x : ℕ) (l : List ℕ) → On x l ↔ In x l
unfolding In
on_in x [] = (λ h. absurd (on_nil x h), λ h. absurd h)
on_in x (y ∷ l) =
    let ih = on_in x l in (
      λ h. ⊎_elim (λ (e : x ≡ y). inl (sym e)) (λ (k : On x l). inr (ih.0 k)) (on_cases x y l h),
      λ h. ⊎_elim (λ (e : y ≡ x). on_head x y l (sym e)) (λ (k : In x l). on_tail x y l (ih.1 k)) h,
    )

pub distinct_is : (l : List ℕ) → (distinct l ≡ true) ↔ Distinct l
unfolding Distinct distinct
distinct_is [] = (λ h. tt, λ h. refl)
distinct_is (x ∷ l) =
    let ih = distinct_is l in (
      λ h. (λ k. on_off x l ((on_in x l).1 k) (distinct_head x l h), ih.0 (distinct_tail x l h)),
      λ h. distinct_cons x l (off_by x l (λ k. h.0 ((on_in x l).0 k))) (ih.1 h.1),
    )

-- a list without the first x on it
unfoldable pub remove : ℕ → List ℕ → List ℕ
remove x [] = []
remove x (y ∷ l) = cond (eqb x y) l (y ∷ remove x l)

module _ (x : ℕ) where
  pub remove_head : (y : ℕ) (l : List ℕ) → x ≡ y → remove x (y ∷ l) ≡ l
  unfolding remove
  remove_head y l e = rw (eq-eqb _ _ e)

  pub remove_other : (y : ℕ) (l : List ℕ) → (x ≡ y → ⊥) → remove x (y ∷ l) ≡ y ∷ remove x l
  unfolding remove
  remove_other y l n = rw (ne_eqb _ _ n)

  pub remove_length : (l : List ℕ) → length l ≤ suc (length (remove x l))
  unfolding remove
  remove_length [] = omega arith
  remove_length (y ∷ l) =
      ⊎_elim
      (λ (e : x ≡ y). rw (remove_head y l e) (omega arith))
      (λ (n : x ≡ y → ⊥). rw (remove_other y l n) (omega (arith, remove_length l)))
      (same_or_not x y)

  pub remove_on : (z : ℕ) (l : List ℕ) → On z (remove x l) → On z l
  unfolding remove
  remove_on z [] p = p
  remove_on z (y ∷ l) p =
      ⊎_elim
      (λ (e : x ≡ y). on_tail z y l (rw (remove_head y l e) at p))
      (λ (n : x ≡ y → ⊥).
      ⊎_elim (λ e. on_head z y l e) (λ q. on_tail z y l (remove_on z l q)) (on_cases z y (remove x l) (rw (remove_other y l n) at p)))
      (same_or_not x y)

  pub remove_off : (l : List ℕ) → distinct l ≡ true → Off x (remove x l)
  unfolding remove
  remove_off [] p = off_nil x
  remove_off (y ∷ l) p =
      ⊎_elim
      (λ (e : x ≡ y). rw (remove_head y l e) (rw e (distinct_head y l p)))
      (λ (n : x ≡ y → ⊥). rw (remove_other y l n) (off_cons x y (remove x l) n (remove_off l (distinct_tail y l p))))
      (same_or_not x y)

  pub remove_distinct : (l : List ℕ) → distinct l ≡ true → distinct (remove x l) ≡ true
  unfolding remove
  remove_distinct [] p = p
  remove_distinct (y ∷ l) p =
      ⊎_elim
      (λ (e : x ≡ y). rw (remove_head y l e) (distinct_tail y l p))
      (λ (n : x ≡ y → ⊥).
      rw (remove_other y l n)
      (distinct_cons y (remove x l) (off_by y (remove x l) (λ q. on_off y l (remove_on y l q) (distinct_head y l p)))
      (remove_distinct l (distinct_tail y l p))))
      (same_or_not x y)

-- n numbers at most: each on the list is one of f 0, .., f (n - 1)
module _ (f : ℕ → ℕ) where
  pub few : (n : ℕ) (l : List ℕ) → distinct l ≡ true → ((y : ℕ) → On y l → (k : ℕ) × (k < n) × (y ≡ f k)) → length l ≤ n
  few zero [] d h = omega arith
  few zero (x ∷ l) d h = let t = h x (on_head x x l refl) in absurd (omega (arith, t.1))
  few (suc n) l d h =
      let r : length (remove (f n) l) ≤ n =
      few n (remove (f n) l) (remove_distinct (f n) l d)
      (λ y p.
      let t = h y (remove_on (f n) y l p) in
      let u : t.0 ≡ n → ⊥ = λ e. on_off y (remove (f n) l) p (rw (t.2, e) (remove_off (f n) l d)) in
      (t.0, ⊎_elim (λ (e : t.0 ≡ n). absurd (u e)) (λ (e : t.0 ≡ n → ⊥). omega (arith, t.1)) (same_or_not t.0 n), t.2)) in
      omega (arith, remove_length (f n) l)

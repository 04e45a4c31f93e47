-- Loans at addresses and loans by their pages: where each loan is at the address of a page, the two lists say the same. Entering and
-- amending a loan at the address of page p is entering and amending it at page p, since addresses of pages are in the order of the pages.
-- Assumes nothing.
use mathlib.Core.Path.{◌≡◌, refl, sym, ap, ◌∙◌}
use mathlib.Core.Bool.{cond}
use mathlib.Core.List.{List, [], ◌∷◌}
use mathlib.Core.Logic.{inl, inr}
use Prim.Native.Nat.{ℕ, zero, suc, ◌*◌, ◌%◌, ◌<◌}
use native.Mathlib.Nat.{mul-div_left, mul-mod_left, mul-le-mul_right, mul-lt-mul_of_pos_right, eq_of_mul-eq-mul_right}
use native.Mathlib.Omega.{arith}
use lib.Dec.{eqb, leb}
use borrow.Author.Tests.{eq-eqb, ne_eqb, le-leb, lt-leb}
use Rattle.trace.specs.Loans.{Loan, loan, loan+, enter, amend, Lent, in_pages, pages_at, loan_pages}
use Rattle.trace.proofs.Loans.Tests.{by_leb, by_eqb}

-- loans by their pages, each at its page's address
unfoldable pub at_pages : ℕ → List Loan → List Loan
at_pages page [] = []
at_pages page (loan p k ∷ l) = loan (p * page) k ∷ at_pages page l

module _ (page : ℕ) where
  -- a loan at an address is one at the page whose address that is
  pub address_lent : (l : List Loan) (a k : ℕ) → Lent (at_pages page l) a k → (p : ℕ) × (a ≡ p * page) × Lent l p k
  unfolding Lent at_pages
  address_lent [] a k x = absurd x
  address_lent (loan q j ∷ l) a k (inl x) = (q, sym x.0, inl (refl, x.1))
  address_lent (loan q j ∷ l) a k (inr x) = let y = address_lent l a k x in (y.0, y.1, inr y.2)

  -- they have the same pages, and there is none of the one where there is none of the other
  pub address_pages : (l : List Loan) → loan_pages (at_pages page l) ≡ loan_pages l
  unfolding loan_pages at_pages
  address_pages [] = refl
  address_pages (loan q j ∷ l) = ap (λ (s : List ℕ). j ∷ s) (address_pages l)

  pub address_none : (l : List Loan) → at_pages page l ≡ [] → l ≡ []
  unfolding at_pages
  address_none [] e = refl
  address_none (loan q j ∷ l) e = let z : ◌≡◌ {A = ℕ} 0 1 = cc in absurd (omega arith)

  -- at an address that is none of a page there is no loan
  pub no_address : (a : ℕ) (l : List Loan) → ¬ (a % page ≡ 0) → pages_at a (at_pages page l) ≡ 0
  unfolding pages_at at_pages
  no_address a [] h = refl
  no_address a (loan q k ∷ l) h =
      rw (ne_eqb (q * page) a (λ e. h (ap (λ (x : ℕ). x % page) (sym e) ∙ mul-mod_left q page))) (no_address a l h)

  -- where there is a page size
  module _ (h : 0 < page) where
    -- BACK TO PAGES
    pub pages_back : (l : List Loan) → in_pages page (at_pages page l) ≡ l
    unfolding in_pages at_pages
    pages_back [] = refl
    pages_back (loan p k ∷ l) = rw (mul-div_left p h, pages_back l)

    -- addresses are in the order of their pages
    address_le : (p q : ℕ) → leb (p * page) (q * page) ≡ leb p q
    address_le p q =
        by_leb p q (λ b. leb (p * page) (q * page) ≡ b)
        (λ l. le-leb (p * page) (q * page) (mul-le-mul_right page l))
        (λ l. lt-leb (p * page) (q * page) (mul-lt-mul_of_pos_right l h))

    address_eq : (p q : ℕ) → eqb (p * page) (q * page) ≡ eqb p q
    address_eq p q =
        by_eqb p q (λ b. eqb (p * page) (q * page) ≡ b)
        (λ e. eq-eqb (p * page) (q * page) (ap (λ (i : ℕ). i * page) e))
        (λ n. ne_eqb (p * page) (q * page) (λ e. n (eq_of_mul-eq-mul_right page h p q e)))

    -- the pages of the loan at an address
    pub pages_address : (p : ℕ) (l : List Loan) → pages_at (p * page) (at_pages page l) ≡ pages_at p l
    unfolding pages_at at_pages
    pages_address p [] = refl
    pages_address p (loan q k ∷ l) = rw (address_eq q p, pages_address p l)

    -- A LOAN ENTERED
    pub enter_address : (p k : ℕ) (l : List Loan) → enter (p * page) k (at_pages page l) ≡ at_pages page (enter p k l)
    unfolding enter at_pages
    enter_address p k [] = refl
    enter_address p k (loan q j ∷ l) =
        rw (address_le p q)
        (by_leb p q (λ b. cond b (loan (p * page) k ∷ at_pages page (loan q j ∷ l)) (loan (q * page) j ∷ enter (p * page) k (at_pages page l))
        ≡ at_pages page (cond b (loan p k ∷ loan q j ∷ l) (loan q j ∷ enter p k l)))
        (λ x. refl) (λ x. ap (λ (s : List Loan). loan (q * page) j ∷ s) (enter_address p k l)))

    -- A LOAN AMENDED
    amend_here : (q k : ℕ) (l : List Loan) → loan+ (q * page) k (at_pages page l) ≡ at_pages page (loan+ q k l)
    unfolding at_pages
    amend_here q zero l = refl
    amend_here q (suc k) l = refl

    pub amend_address : (p k : ℕ) (l : List Loan) → amend (p * page) k (at_pages page l) ≡ at_pages page (amend p k l)
    unfolding amend at_pages
    amend_address p k [] = refl
    amend_address p k (loan q j ∷ l) =
        rw (address_eq q p)
        (by_eqb q p (λ b. cond b (loan+ (q * page) k (at_pages page l)) (loan (q * page) j ∷ amend (p * page) k (at_pages page l))
        ≡ at_pages page (cond b (loan+ q k l) (loan q j ∷ amend p k l)))
        (λ x. amend_here q k l) (λ x. ap (λ (s : List Loan). loan (q * page) j ∷ s) (amend_address p k l)))

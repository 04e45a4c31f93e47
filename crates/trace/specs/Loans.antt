-- Rule 14.2: the loans of one region, and which pages they hold. The receipts keep a loan at the address that was
-- answered. Which pages it covers is read off the same list with each address turned into the number of its page (`in_pages`). Nothing here
-- looks at a map or at a memory. Assumes nothing.
use Rattle.std.specs.Prelude.{◌≡◌, cond, List, [], ◌∷◌, ◌⊎◌, ℕ, zero, suc, ◌+◌, ◌/◌, ◌≤◌, ◌<◌, max, leb, eqb}

-- a loan of pages: where it starts (an address, or a page's number), and how many pages it has
pub data Loan : Type 0 where
  loan : ℕ → ℕ → Loan

-- a loan entered, in the order in which they start
unfoldable pub enter : ℕ → ℕ → List Loan → List Loan
enter p k [] = loan p k ∷ []
enter p k (loan a n ∷ l) = cond (leb p a) (loan p k ∷ loan a n ∷ l) (loan a n ∷ enter p k l)

-- a loan in front; of no pages: nothing
abbrev pub loan+ : ℕ → ℕ → List Loan → List Loan
loan+ a zero l = l
loan+ a (suc k) l = loan a (suc k) ∷ l

-- the loan at p, and no other, has k pages from now on (0: it is struck)
unfoldable pub amend : ℕ → ℕ → List Loan → List Loan
amend p k [] = []
amend p k (loan a n ∷ l) = cond (eqb a p) (loan+ a k l) (loan a n ∷ amend p k l)

-- a loan of k pages at p is there
unfoldable pub Lent : List Loan → ℕ → ℕ → Type 0
Lent [] p k = ⊥
Lent (loan a n ∷ l) p k = ((a ≡ p) × (n ≡ k)) ⊎ Lent l p k

-- the pages of the loan at p; 0 where there is none
unfoldable pub pages_at : ℕ → List Loan → ℕ
pages_at p [] = 0
pages_at p (loan a k ∷ l) = cond (eqb a p) k (pages_at p l)

-- loans at addresses, each with the number of its page for its address: pages of `page` bytes are counted from address 0 on
unfoldable pub in_pages : ℕ → List Loan → List Loan
in_pages page [] = []
in_pages page (loan a k ∷ l) = loan (a / page) k ∷ in_pages page l

-- ---- loans by their pages

-- "Held is what a loan covers": page q is
unfoldable pub Held : List Loan → ℕ → Type 0
Held [] q = ⊥
Held (loan a n ∷ l) q = ((a ≤ q) × (q < a + n)) ⊎ Held l q

-- the loans lie in order between page `at` and page n, each of a page or more, and none starts before the one before it has ended
unfoldable pub Ordered : ℕ → ℕ → List Loan → Type 0
Ordered n at [] = at ≤ n
Ordered n at (loan a k ∷ l) = (at ≤ a) × (0 < k) × Ordered n (a + k) l

-- the pages of each loan
unfoldable pub loan_pages : List Loan → List ℕ
loan_pages [] = []
loan_pages (loan a n ∷ l) = n ∷ loan_pages l

-- of a list of sizes: the largest (0: there is none), and all together
unfoldable pub most : List ℕ → ℕ
most [] = 0
most (n ∷ ns) = max n (most ns)

unfoldable pub sum : List ℕ → ℕ
sum [] = 0
sum (n ∷ ns) = n + sum ns

-- the pages of an area: the number of the first one, and how many they are; and the number behind the last one's
pub record Span : Type 0 where
  pub first : ℕ
  pub count : ℕ

abbrev pub behind : Span → ℕ
behind a = a.first + a.count

-- a run: k adjoining pages from p on, one or more, of an area, none of them held
pub record Run (a : Span) (l : List Loan) (k p : ℕ) : Type 0 where
  pub some : 0 < k
  pub from : a.first ≤ p
  pub upto : p + k ≤ behind a
  pub unheld : (q : ℕ) → p ≤ q → q < p + k → ¬ Held l q

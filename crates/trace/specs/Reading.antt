-- What the receipts say of a kind of region. A kind has its own rule for where a get is placed, how large a loan can become and how the map
-- is drawn; the answers, the grants and the claims are stated over these, once for every kind. Assumes nothing.
use Rattle.std.specs.Prelude.{Bool, List, [], ◌∷◌, ℕ, ◌+◌, Option}
use Rattle.manager.specs.Map.{Segment, free, held}
use Rattle.manager.specs.declared.Need.{Need}
use Rattle.trace.specs.Loans.{Loan, loan, Span, Run}

-- the loans that the held segments of a map are, where the map starts at page `at`
unfoldable pub loans_of : ℕ → List Segment → List Loan
loans_of at [] = []
loans_of at (free n ∷ s) = loans_of (at + n) s
loans_of at (held n ∷ s) = loan at n ∷ loans_of (at + n) s

-- of a region of the pages a with the loans l, by their pages
pub record Reading : Type 1 where
  -- COMPUTED: the pages that are given for so many asked for
  pub rounded : ℕ → ℕ
  -- which alignments, in bytes, a get of it knows
  pub aligns : ℕ → Bool
  -- where a get of n is placed (a, l, n), and whether the loan at page p can have k pages (a, l, p, k)
  pub place : Span → List Loan → Need → Option ℕ
  pub can_have : Span → List Loan → ℕ → ℕ → Bool
  -- the drawn map, and the pages of each free segment of it
  pub drawn : Span → List Loan → List Segment
  pub runs : Span → List Loan → List ℕ
  -- SAID: the loans lie in the region, and no two share a page
  pub Fits : Span → List Loan → Type 0
  -- where the pages of n may start (a, n, p)
  pub Starts : Span → Need → ℕ → Type 0
  -- p is the place that a get of n takes (a, l, n, p)
  pub Chosen : Span → List Loan → Need → ℕ → Type 0
  -- the loan of m pages at page p can have k (a, l, p, m, k)
  pub Room : Span → List Loan → ℕ → ℕ → ℕ → Type 0

-- FOR EVERY KIND: place p would serve a get of n, and no place would
pub record Serves (R : Reading) (a : Span) (l : List Loan) (n : Need) (p : ℕ) : Type 0 where
  pub starts : R.Starts a n p
  pub run : Run a l n.pages p

abbrev pub NoPlace : Reading → Span → List Loan → Need → Type 0
NoPlace R a l n = (p : ℕ) → ¬ Serves R a l n p

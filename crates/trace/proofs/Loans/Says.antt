-- The loans that a map's held segments are, for maps of every kind: what is found at a page, the counts, and their order are read off these
-- loans. So a kind has only to show that a map which is drawn from loans says them again. Assumes nothing.
use mathlib.Core.Path.{◌≡◌, refl, ap}
use mathlib.Core.Bool.{cond}
use mathlib.Core.List.{List, [], ◌∷◌, ◌++◌}
use mathlib.Core.Logic.{inl, inr}
use Prim.Native.Nat.{ℕ, ◌+◌}
use native.Mathlib.Omega.{arith}
use lib.Dec.{eqb}
use Rattle.manager.specs.Lists.{any}
use Rattle.manager.specs.Map.{Segment, free, held, is_held_segment, held_sizes, total}
use Rattle.manager.specs.Kind.{held_from}
use Rattle.manager.proofs.Laws.Map.{Sized}
use Rattle.trace.specs.Loans.{Loan, loan, Lent, pages_at, Ordered, loan_pages, sum}
use Rattle.trace.specs.Reading.{loans_of}
use Rattle.trace.specs.Replies.{lends_any}
use Rattle.trace.specs.Claims.{free_pages}
use Rattle.trace.proofs.Loans.Drawn.{ordered_next, ordered_from}
use Rattle.trace.proofs.Loans.Tests.{by_eqb}

-- ---- the loan at a page

-- the loan that is found, or that there is none
pub data Finds (p : ℕ) (l : List Loan) (n : ℕ) : Type 0 where
  there : Lent l p n → Finds p l n
  missing : n ≡ 0 → ((k : ℕ) → ¬ Lent l p k) → Finds p l n

pub finds : (p : ℕ) (l : List Loan) → Finds p l (pages_at p l)
unfolding pages_at Lent
finds p [] = missing refl (λ k x. absurd x)
finds p (loan a j ∷ l) =
    by_eqb a p (λ t. Finds p (loan a j ∷ l) (cond t j (pages_at p l))) (λ h. there (inl (h, refl))) (λ h. behind h (finds p l))
  where
    behind : ¬ (a ≡ p) → Finds p l (pages_at p l) → Finds p (loan a j ∷ l) (pages_at p l)
    behind h (there x) = there (inr x)
    behind h (missing z n) = missing z (λ k x. elim x [ inl y ↦ h y.0 | inr y ↦ n k y ])

-- where pages are found there is a loan of them
pub found_lent : (p : ℕ) (l : List Loan) → ¬ (pages_at p l ≡ 0) → Lent l p (pages_at p l)
found_lent p l n = go (pages_at p l) (finds p l) n
  where
    go : (k : ℕ) → Finds p l k → ¬ (k ≡ 0) → Lent l p k
    go k (there x) n = x
    go k (missing z h) n = absurd (n z)

-- and where there is one loan at most, its pages are found
pub found_pages : (p : ℕ) (l : List Loan) (k : ℕ) → Lent l p k → ((m : ℕ) → Lent l p m → m ≡ k) → pages_at p l ≡ k
found_pages p l k x one = go (pages_at p l) (finds p l)
  where
    go : (n : ℕ) → Finds p l n → n ≡ k
    go n (there y) = one n y
    go n (missing z h) = absurd (h k x)

-- ---- WHAT A MAP SAYS, from page `at` on

-- the pages of the held segment at a page
pub held_says : (p at : ℕ) (s : List Segment) → held_from p at s ≡ pages_at p (loans_of at s)
unfolding held_from pages_at loans_of
held_says p at [] = refl
held_says p at (free n ∷ s) = held_says p (at + n) s
held_says p at (held n ∷ s) = ap (λ (k : ℕ). cond (eqb at p) n k) (held_says p (at + n) s)

-- the pages of each, and with the free ones all pages
pub pages_says : (at : ℕ) (s : List Segment) → held_sizes s ≡ loan_pages (loans_of at s)
unfolding held_sizes loan_pages loans_of
pages_says at [] = refl
pages_says at (free n ∷ s) = pages_says (at + n) s
pages_says at (held n ∷ s) = ap (λ (t : List ℕ). n ∷ t) (pages_says (at + n) s)

pub count_says : (at : ℕ) (s : List Segment) → sum (loan_pages (loans_of at s)) + free_pages s ≡ total s
unfolding sum loan_pages loans_of free_pages total
count_says at [] = refl
count_says at (free n ∷ s) = omega (arith, count_says (at + n) s)
count_says at (held n ∷ s) = omega (arith, count_says (at + n) s)

-- something is held where something is lent
pub any_says : (at : ℕ) (s : List Segment) → any is_held_segment s ≡ lends_any (loans_of at s)
unfolding any loans_of
any_says at [] = refl
any_says at (free n ∷ s) = any_says (at + n) s
any_says at (held n ∷ s) = refl

-- the loans are in order
pub ordered_says : (at : ℕ) (s : List Segment) → Sized s → Ordered (at + total s) at (loans_of at s)
unfolding Ordered loans_of total
ordered_says at [] w = omega arith
ordered_says at (free n ∷ s) w =
    let e : at + n + total s ≡ at + (n + total s) = omega arith in
    let m = at + (n + total s) in
    let l = loans_of (at + n) s in
    let o : Ordered m (at + n) l = rw e at (ordered_says (at + n) s w.1) in
    ordered_from m (at + n) at l o (omega (arith, ordered_next m (at + n) l o))
ordered_says at (held n ∷ s) w =
    let e : at + n + total s ≡ at + (n + total s) = omega arith in
    (omega arith, w.0, rw e at (ordered_says (at + n) s w.1))

-- those of two parts of a map
pub append_says : (at : ℕ) (a b : List Segment) → loans_of at (a ++ b) ≡ loans_of at a ++ loans_of (at + total a) b
unfolding loans_of total
append_says at [] b = let e : at + 0 ≡ at = omega arith in rw e
append_says at (free n ∷ a) b = let e : at + n + total a ≡ at + (n + total a) = omega arith in rw e at (append_says (at + n) a b)
append_says at (held n ∷ a) b =
    let e : at + n + total a ≡ at + (n + total a) = omega arith in
    ap (λ (t : List Loan). loan at n ∷ t) (rw e at (append_says (at + n) a b))

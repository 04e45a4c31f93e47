-- Rules 5.5 to 5.10 and 14.6, by the receipts: a region by halves. Its map is drawn by halves, a get takes the smallest free block that is large
-- enough and knows no alignment but 0, and a loan keeps its size. Assumes nothing.
use Rattle.std.specs.Prelude.{◌≡◌, true, cond, List, [], ◌∷◌, ◌++◌, ℕ, zero, suc, ◌+◌, ◌-◌, ◌%◌, ◌^◌, ◌≤◌, eqb, ltb}
use Rattle.arith.specs.Power.{level, power_up, is_power}
use Rattle.manager.specs.Map.{Segment, free, held, free_sizes}
use Rattle.manager.specs.Halves.{FreeAt, place_block}
use Rattle.trace.specs.Loans.{Loan, loan, Lent, pages_at, Ordered, Span, behind}
use Rattle.trace.specs.Reading.{Reading}

-- of some loans those that start before page m, and the others
unfoldable pub below : ℕ → List Loan → List Loan
below m [] = []
below m (loan a k ∷ l) = cond (ltb a m) (loan a k ∷ below m l) (below m l)

unfoldable pub from : ℕ → List Loan → List Loan
from m [] = []
from m (loan a k ∷ l) = cond (ltb a m) (from m l) (loan a k ∷ from m l)

-- a block of 2^j pages from page `at` on, in which the loans l lie: with none it is free, with one of all its pages it is held, and any
-- other is drawn as its two halves, the low one first
unfoldable pub drawn_block : ℕ → ℕ → List Loan → List Segment
drawn_block zero at [] = free 1 ∷ []
drawn_block zero at (x ∷ l) = held 1 ∷ []
drawn_block (suc j) at [] = free (2 ^ suc j) ∷ []
drawn_block (suc j) at (loan a k ∷ l) =
    cond (eqb k (2 ^ suc j)) (held (2 ^ suc j) ∷ [])
    (drawn_block j at (below (at + 2 ^ j) (loan a k ∷ l)) ++ drawn_block j (at + 2 ^ j) (from (at + 2 ^ j) (loan a k ∷ l)))

-- THE DRAWN MAP: all pages of the region are one block
abbrev pub drawn_map : Span → List Loan → List Segment
drawn_map a l = drawn_block (level a.count) a.first l

-- k pages at page p start "at a multiple of their own length, counted from the first page"
abbrev pub Aligned : Span → ℕ → ℕ → Type 0
Aligned a k p = (p - a.first) % k ≡ 0

-- the region is one block, and the loans lie in it, no two sharing a page: each has a power of two pages, and is aligned
pub record InBlocks (a : Span) (l : List Loan) : Type 0 where
  pub block : is_power a.count ≡ true
  pub ordered : Ordered (behind a) a.first l
  pub power : (p k : ℕ) → Lent l p k → is_power k ≡ true
  pub aligned : (p k : ℕ) → Lent l p k → Aligned a k p

-- of the free blocks of the drawn map that have k pages or more: p is the lowest of the smallest
pub record Smallest (a : Span) (l : List Loan) (k p : ℕ) : Type 0 where
  pub pages : ℕ
  pub free : FreeAt (drawn_map a l) a.first p pages
  pub enough : k ≤ pages
  pub smallest : (q m : ℕ) → FreeAt (drawn_map a l) a.first q m → k ≤ m → pages ≤ m
  pub lowest : (q : ℕ) → FreeAt (drawn_map a l) a.first q pages → p ≤ q

-- WHAT THE RECEIPTS SAY OF A REGION BY HALVES: a size is rounded up to a power of two, no alignment but 0 is known, and a loan can have the
-- size that it has
abbrev pub halves : Reading
halves =
    record {
      rounded = power_up;
      aligns = λ alignment. eqb alignment 0;
      place = λ a l n. place_block n.pages a.first (drawn_map a l);
      can_have = λ a l p k. eqb k (pages_at p l);
      drawn = drawn_map;
      runs = λ a l. free_sizes (drawn_map a l);
      Fits = InBlocks;
      Starts = λ a n p. Aligned a n.pages p;
      Chosen = λ a l n p. Smallest a l n.pages p;
      Room = λ a l p m k. k ≡ m;
    }

-- Rules 5.1 and 5.3 by the receipts: a region of pages. A get takes the lowest run of unheld pages that starts on its alignment, and a
-- loan can grow into the unheld pages behind it. Assumes nothing.
use Rattle.std.specs.Prelude.{true, cond, List, [], ◌∷◌, ℕ, zero, suc, ◌+◌, ◌-◌, ◌≤◌, ◌<◌, leb, eqb, Option, None, Some}
use Rattle.arith.specs.Round.{align_up, OnEvery}
use Rattle.manager.specs.Map.{Segment, free, held}
use Rattle.manager.specs.Paged.{room_from}
use Rattle.manager.specs.declared.Need.{Need}
use Rattle.trace.specs.Loans.{Loan, loan, Held, Ordered, Span, behind, Run}
use Rattle.trace.specs.Reading.{Reading}

-- the pages of each unbroken run of unheld pages, from page `at` to page n, taken whole; a gap of no page is no run
abbrev pub size+ : ℕ → List ℕ → List ℕ
size+ zero s = s
size+ (suc g) s = suc g ∷ s

unfoldable pub runs : ℕ → ℕ → List Loan → List ℕ
runs n at [] = size+ (n - at) []
runs n at (loan a k ∷ l) = size+ (a - at) (runs n (a + k) l)

-- a free segment for an unbroken run of unheld pages, taken whole; none where there is no such page
abbrev pub run+ : ℕ → List Segment → List Segment
run+ zero s = s
run+ (suc g) s = free (suc g) ∷ s

-- THE DRAWN MAP, from page `at` to page n: "a held segment for each loan and a free one for each unbroken run of unheld pages, taken
-- whole"
unfoldable pub drawn : ℕ → ℕ → List Loan → List Segment
drawn n at [] = run+ (n - at) []
drawn n at (loan a k ∷ l) = run+ (a - at) (held k ∷ drawn n (a + k) l)

-- the lowest run that starts on the alignment: pages are counted from address 0 on, so the address of a page is a multiple of the alignment
-- where its number is one of `every`
pub record Lowest (a : Span) (l : List Loan) (n : Need) (p : ℕ) : Type 0 where
  pub run : Run a l n.pages p
  pub starts : OnEvery n.every p
  pub first : (q : ℕ) → Run a l n.pages q → OnEvery n.every q → p ≤ q

-- the loan of m pages at page p can have k: the pages that it lacks are pages of the region, and unheld
pub record Room (a : Span) (l : List Loan) (p m k : ℕ) : Type 0 where
  pub upto : p + k ≤ behind a
  pub unheld : (q : ℕ) → p + m ≤ q → q < p + k → ¬ Held l q

-- where the next loan starts, or the region's pages end, before page n
abbrev pub up_to : ℕ → List Loan → ℕ
up_to n [] = n
up_to n (loan a k ∷ l) = a

-- the most pages, below page n, that the loan at page p can have: its own, and the unheld ones up to the next loan
unfoldable pub most_pages_at : ℕ → ℕ → List Loan → ℕ
most_pages_at n p [] = 0
most_pages_at n p (loan a k ∷ l) = cond (eqb a p) (up_to n l - a) (most_pages_at n p l)

-- the lowest run of unheld pages that starts on the alignment, from page `at` on and below page n: the first gap between loans that has the
-- pages from there on
unfoldable pub lowest_run : ℕ → Need → ℕ → List Loan → Option ℕ
lowest_run n w at [] = cond (leb w.pages (room_from w.every at (n - at))) (Some (align_up w.every at)) None
lowest_run n w at (loan a m ∷ l) =
    cond (leb w.pages (room_from w.every at (a - at))) (Some (align_up w.every at)) (lowest_run n w (a + m) l)

-- WHAT THE RECEIPTS SAY OF A REGION OF PAGES: it knows all alignments, and a get may start wherever its own lets it
abbrev pub pages : Reading
pages =
    record {
      rounded = λ k. k;
      aligns = λ alignment. true;
      place = λ a l n. lowest_run (behind a) n a.first l;
      can_have = λ a l p k. leb k (most_pages_at (behind a) p l);
      drawn = λ a l. drawn (behind a) a.first l;
      runs = λ a l. runs (behind a) a.first l;
      Fits = λ a l. Ordered (behind a) a.first l;
      Starts = λ a n p. OnEvery n.every p;
      Chosen = Lowest;
      Room = Room;
    }

-- The loans of a live region, at addresses and by their pages; and what the laws of its kind say of them, whatever the memory. Assumes nothing.
use Rattle.std.specs.Prelude.{Option, None, Some}
use mathlib.Core.Path.{◌≡◌, sym, ap, ◌∙◌, subst}
use mathlib.Core.Bool.{true}
use mathlib.Core.List.{List, []}
use mathlib.Core.Logic.{◌↔◌}
use Prim.Native.Nat.{ℕ, ◌/◌, ◌≤◌, ◌<◌}
use native.Mathlib.Nat.{mul-div_left}
use Rattle.arith.specs.Round.{pages_for}
use Rattle.arith.proofs.Laws.Round.{pages_some}
use Rattle.manager.specs.Region.{kind_of}
use Rattle.trace.specs.Loans.{Loan, Lent, enter, amend, in_pages, pages_at}
use Rattle.trace.specs.Reading.{NoPlace}
use Rattle.trace.specs.Receipts.{RegionEntry, unit, reading, pages_over, need_in, Servable, pages_in, span_in, address_in, page_in, by_page, page_loans, with_loans}
use Rattle.trace.specs.Replies.{place_in, can_have_in}
use Rattle.trace.specs.Claims.{Full, Takes}
use Rattle.trace.proofs.Invariant.{at_addresses, RegionIs}
use Rattle.trace.proofs.Frame.{region_unit}
use Rattle.trace.proofs.Loans.Addresses.{pages_back, address_lent, enter_address, amend_address}
use Rattle.trace.proofs.Loans.Lawful as lawful
use Rattle.trace.proofs.Loans.Lawful.{Lawful, Found, found, nowhere, drawn_is, place_found}
use Rattle.trace.proofs.Loans.Says.{found_pages}
use Rattle.trace.proofs.Loans.Kinds.{lawful_of}

-- the laws of a region's kind
abbrev pub law : (e : RegionEntry) → Lawful (kind_of e.order) (reading e)
law e = lawful_of e.order

-- WHAT THE RECEIPTS SAY OF A LIVE REGION'S LOANS, whatever the memory: it has pages, each loan is at the address of one, and they fit
pub record Regular (e : RegionEntry) : Type 0 where
  pub some_unit : 0 < unit e
  pub some_page : 1 ≤ pages_in e
  pub placed : e.loans ≡ at_addresses e (page_loans e)
  pub fits : (reading e).Fits (span_in e) (page_loans e)

pub regular : (m : List ℕ) (e : RegionEntry) → RegionIs m e → Regular e
regular m e is = record { some_unit = region_unit m e is; some_page = is.some_page; placed = is.placed; fits = is.fits }

-- a loan at an address, by its page
pub record Holds (e : RegionEntry) (a k : ℕ) : Type 0 where
  pub at : a ≡ address_in e (page_in e a)
  pub lent : Lent (page_loans e) (page_in e a) k

-- where a get of so many bytes on an alignment is placed: at the place that it takes, where it can be lent; or the region is full
pub data Places (e : RegionEntry) (size alignment : ℕ) : Option ℕ → Type 0 where
  takes : (p : ℕ) → Takes e e.loans size alignment p → Regular (with_loans (enter (address_in e p) (pages_over e size) e.loans) e)
      → Places e size alignment (Some p)
  full : Full e e.loans size alignment → Places e size alignment None

-- A REGION THAT IS FULL FOR A GET THAT IT COULD SERVE WITH NOTHING LENT HAS A LOAN
pub full_lends : (e : RegionEntry) (size alignment : ℕ) → Servable e size alignment → Full e e.loans size alignment → ¬ (e.loans ≡ [])
unfolding in_pages
full_lends e size alignment s f n =
    subst (λ (l : List Loan). NoPlace (reading e) (span_in e) (by_page e l) (need_in e size alignment)) n f s.0 s.1

module _ (e : RegionEntry) (g : Regular e) where
  -- A LOAN AT AN ADDRESS IS ONE AT ITS PAGE
  pub loan_holds : (a k : ℕ) → Lent e.loans a k → Holds e a k
  loan_holds a k l =
      let x = address_lent (unit e) (page_loans e) a k (rw g.placed at l) in
      let p : x.0 ≡ page_in e a = sym (mul-div_left x.0 g.some_unit) ∙ ap (page_in e) (sym x.1) in
      record { at = x.1 ∙ ap (address_in e) p; lent = subst (λ (q : ℕ). Lent (page_loans e) q k) p x.2 }

  -- a loan entered or amended at the address of a page
  pub entered_at : (p k : ℕ) → enter (address_in e p) k e.loans ≡ at_addresses e (enter p k (page_loans e))
  entered_at p k = ap (enter (address_in e p) k) g.placed ∙ enter_address (unit e) g.some_unit p k (page_loans e)

  pub amended_at : (a k : ℕ) → a ≡ address_in e (page_in e a) → amend a k e.loans ≡ at_addresses e (amend (page_in e a) k (page_loans e))
  amended_at a k h =
      ap (λ (b : ℕ). amend b k e.loans) h ∙ ap (amend (address_in e (page_in e a)) k) g.placed
      ∙ amend_address (unit e) g.some_unit (page_in e a) k (page_loans e)

  -- other loans, at addresses of pages
  module _ (k l : List Loan) (at : k ≡ at_addresses e l) where
    pub back_to_pages : by_page e k ≡ l
    back_to_pages = ap (by_page e) at ∙ pages_back (unit e) g.some_unit l

    pub regular_with : (reading e).Fits (span_in e) l → Regular (with_loans k e)
    regular_with o =
        record {
          some_unit = g.some_unit;
          some_page = g.some_page;
          placed = at ∙ ap (at_addresses e) (sym back_to_pages);
          fits = subst ((reading e).Fits (span_in e)) (sym back_to_pages) o;
        }

  -- WHAT THE LAWS OF ITS KIND SAY. A loan has a page, and there is one at an address at most
  pub lent_some : (a k : ℕ) → Lent e.loans a k → 0 < k
  lent_some a k x = lawful.lent_some (law e) g.fits (page_in e a) k (loan_holds a k x).lent

  pub pages_lent : (a k : ℕ) → Lent e.loans a k → pages_at a e.loans ≡ k
  pages_lent a k x =
      found_pages a e.loans k x (λ n y. lawful.lent_one_lem (law e) g.fits (page_in e a) n k (loan_holds a n y).lent (loan_holds a k x).lent)

  -- where a get is placed
  pub places : (size alignment : ℕ) → 0 < size → Places e size alignment (place_in e e.loans size alignment)
  places size alignment z = go (place_found (law e) g.fits (pages_for size (unit e)) (alignment / unit e) (pages_some size (unit e) g.some_unit z))
    where
      go : {q : Option ℕ} → Found (reading e) (span_in e) (page_loans e) (need_in e size alignment) q → Places e size alignment q
      go (found p c o) = takes p c (regular_with _ _ (entered_at p (pages_over e size)) o)
      go (nowhere h) = full h

  -- what a loan can have
  pub room_lent : (a k size : ℕ) → Lent e.loans a k
      → (can_have_in e a size ≡ true) ↔ (reading e).Room (span_in e) (page_loans e) (page_in e a) k (pages_over e size)
  room_lent a k size x = (law e).room g.fits (page_in e a) k (pages_for size (unit e)) (loan_holds a k x).lent

  -- a return
  pub regular_returned : (a k : ℕ) → Lent e.loans a k → Regular (with_loans (amend a 0 e.loans) e)
  regular_returned a k x =
      let h = loan_holds a k x in
      regular_with _ _ (amended_at a 0 h.at) ((law e).returned (drawn_is (law e) g.fits) (page_in e a) k h.lent).fits

  -- a resize, to what it can have
  pub regular_resized : (a k size : ℕ) → Lent e.loans a k → can_have_in e a size ≡ true → Regular (with_loans (amend a (pages_over e size) e.loans) e)
  regular_resized a k size x l =
      let h = loan_holds a k x in
      regular_with _ _ (amended_at a (pages_over e size) h.at)
      ((law e).changed (drawn_is (law e) g.fits) (page_in e a) k (pages_for size (unit e)) h.lent l).fits

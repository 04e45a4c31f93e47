-- THE MAP OF A REGION IS THE ONE DRAWN FROM ITS LOANS (`Shows`): what the names by which the directives speak of a region come to, said by
-- its loans at their addresses. Kinds of regions, maps and areas stand below this; the directives, the queue and the list of calls, above.
-- Assumes nothing.
use Rattle.std.specs.Prelude.{Option, None, Some}
use mathlib.Core.Path.{◌≡◌, refl, sym, ap, ◌∙◌}
use mathlib.Core.Bool.{Bool, true, false}
use mathlib.Core.List.{List, [], ◌∷◌}
use Prim.Native.Nat.{ℕ, ◌+◌, ◌*◌, ◌/◌, ◌%◌, ◌≤◌, ◌<◌}
use native.Mathlib.Nat.{div-add-mod'}
use native.Mathlib.Omega.{arith}
use lib.ListN.{length}
use lib.Seq.{length-sets}
use lib.Dec.{eqb}
use borrow.Author.Tests.{eqb-true, eqb-false}
use Rattle.arith.specs.Round.{pages_for}
use Rattle.arith.proofs.Laws.Round.{pages_some}
use Rattle.manager.specs.Map.{Segment, draw}
use Rattle.manager.specs.Paged.{free+}
use Rattle.manager.specs.Region.{starts_page, map_at, map_words, segments, with_segments, kind}
use Rattle.manager.specs.Region as region
use Rattle.manager.specs.declared.Region.{Region}
use Rattle.trace.specs.Loans.{Loan, loan, Lent, enter, amend, in_pages, pages_at, loan_pages}
use Rattle.trace.specs.Receipts.{RegionEntry, unit, reading, pages_over, need_in, servable_in, pages_in, span_in, address_in, page_in, by_page, page_loans, with_loans}
use Rattle.trace.specs.Replies.{lends_any, place_in, can_have_in}
use Rattle.trace.specs.Claims.{Full, Takes}
use Rattle.trace.proofs.Invariant.{OnlyMap, region_for, at_addresses, RegionIs}
use Rattle.trace.proofs.Frame.{unit_least, pages_allowed, inside_same, parts_inside, map_fits, map_stored, map_words_only, region_fits}
use Rattle.trace.proofs.Loans.Addresses.{at_pages, pages_address, no_address, address_pages}
use Rattle.trace.proofs.Loans.Says.{found_lent}
use Rattle.trace.proofs.Loans.Lawful as lawful
use Rattle.trace.proofs.Loans.Lawful.{Drawing, Gets, given, nothing}
use Rattle.trace.proofs.Segments.{law, Regular, regular, loan_holds, entered_at, amended_at, back_to_pages, regular_with}
use Rattle.trace.proofs.Servable as servable

-- a step: the memory m' is the picture of the entry with the loans l, and only words of the map differ from m
pub record Steps (m : List ℕ) (e : RegionEntry) (m' : List ℕ) (l : List Loan) : Type 0 where
  pub is : RegionIs m' (with_loans l e)
  pub only : OnlyMap e m m'

-- what a get of so many bytes on an alignment comes to: its place, lent, or nothing where the region is full
pub data Gives (m : List ℕ) (e : RegionEntry) (size alignment : ℕ) : Option ℕ → List ℕ → Type 0 where
  gave : {m' : List ℕ} (p : ℕ) → Takes e e.loans size alignment p → Steps m e m' (enter (address_in e p) (pages_over e size) e.loans)
      → Gives m e size alignment (Some p) m'
  none : {m' : List ℕ} → Full e e.loans size alignment → Gives m e size alignment None m'

pub record Shows (m : List ℕ) (e : RegionEntry) : Type 0 where
  -- sizes and alignments
  pub asked : (size : ℕ) → region.pages_asked (region_for e) size ≡ pages_over e size
  pub knows : (alignment : ℕ) → (kind (region_for e)).aligns alignment ≡ (reading e).aligns alignment
  -- get: what it needs, whether that could be served with nothing held, where it is placed, and the memory then
  pub needs : (size alignment : ℕ) → region.need_of (region_for e) size alignment ≡ need_in e size alignment
  pub servable : (size alignment : ℕ) → 0 < size → region.servable (region_for e) (need_in e size alignment) ≡ servable_in e size alignment
  pub placed : (size alignment : ℕ) → 0 < size → region.placed m (region_for e) (need_in e size alignment) ≡ place_in e e.loans size alignment
  pub got : (size alignment : ℕ) → 0 < size
      → Gives m e size alignment (region.placed m (region_for e) (need_in e size alignment)) (region.taken m (region_for e) (need_in e size alignment))
  -- the segment at an address, and what it can have
  pub held : (a : ℕ) → region.held_at m (region_for e) a ≡ pages_at a e.loans
  pub can_have_lem : (a size : ℕ) → region.can_have m (region_for e) a (pages_over e size) ≡ can_have_in e a size
  -- return and resize
  pub returned : (a k : ℕ) → Lent e.loans a k → Steps m e (region.changed m (region_for e) a 0) (amend a 0 e.loans)
  pub resized : (a k size : ℕ) → Lent e.loans a k → can_have_in e a size ≡ true
      → Steps m e (region.changed m (region_for e) a (pages_over e size)) (amend a (pages_over e size) e.loans)
  -- counts
  pub any : region.any_held m (region_for e) ≡ lends_any e.loans
  pub frees : region.frees m (region_for e) ≡ (reading e).runs (span_in e) (page_loans e)
  pub helds : region.helds m (region_for e) ≡ loan_pages e.loans

module _ (m : List ℕ) (e : RegionEntry) (is : RegionIs m e) where
  abbrev r : Region
  r = region_for e

  abbrev loans : Regular e
  loans = regular m e is

  pub drawing : Drawing (reading e) (span_in e) (page_loans e) (segments m r)
  drawing = lawful.drawing (law e) (span_in e) (page_loans e) (map_words m r) is.fits is.map

  -- another map, drawn from other loans
  step : (k l : List Loan) (s : List Segment) → k ≡ at_addresses e l → Drawing (reading e) (span_in e) l s → Steps m e (with_segments m r s) k
  step k l s at d =
      let g = regular_with e loans k l at d.fits in
      record {
        is = record {
          named = is.named;
          inside = inside_same m (with_segments m r s) e.start e.bytes (length-sets m (map_at r) (draw s)) is.inside;
          page_some = is.page_some;
          page_most = is.page_most;
          some_page = is.some_page;
          placed = g.placed;
          fits = g.fits;
          map = map_stored m r (draw s) (lawful.size (law e) d) (region_fits m e is)
              ∙ ap draw d.is ∙ ap (λ (j : List Loan). draw ((reading e).drawn (span_in e) j)) (sym (back_to_pages e loans k l at));
        };
        only = map_words_only m r (draw s) (lawful.size (law e) d);
      }

  -- ---- the segment at an address

  page_start : (a : ℕ) → starts_page r a ≡ true → a ≡ address_in e (page_in e a)
  page_start a h = omega (arith, eqb-true (a % unit e) 0 h, div-add-mod' a (unit e))

  -- its pages are those of the loan there
  held_at_lem : (a : ℕ) → region.held_at m r a ≡ pages_at a e.loans
  held_at_lem a = go (starts_page r a) refl ∙ sym (ap (pages_at a) is.placed)
    where
      l : List Loan
      l = page_loans e

      go : (b : Bool) → starts_page r a ≡ b → region.held_at m r a ≡ pages_at a (at_addresses e l)
      go true f =
          rw f (lawful.held_found (law e) drawing (page_in e a))
          ∙ sym (ap (λ (x : ℕ). pages_at x (at_addresses e l)) (page_start a f) ∙ pages_address (unit e) loans.some_unit (page_in e a) l)
      go false f = rw f (sym (no_address (unit e) a l (eqb-false (a % unit e) 0 f)))

  -- something is held where something is lent
  any_held_lem : region.any_held m r ≡ lends_any e.loans
  unfolding in_pages
  any_held_lem = lawful.any_lent (law e) drawing ∙ by_pages e.loans
    where
      by_pages : (l : List Loan) → lends_any (by_page e l) ≡ lends_any l
      by_pages [] = refl
      by_pages (loan a k ∷ l) = refl

  -- ---- get

  gets : (size alignment : ℕ) → 0 < size → Gives m e size alignment (region.placed m r (need_in e size alignment)) (region.taken m r (need_in e size alignment))
  gets size alignment z = go ((law e).got drawing (pages_for size (unit e)) (alignment / unit e) (pages_some size (unit e) loans.some_unit z))
    where
      go : {q : Option ℕ} {s : List Segment} → Gets (reading e) (span_in e) (page_loans e) (need_in e size alignment) q s → Gives m e size alignment q (with_segments m r s)
      go (given p d c) = gave p c (step _ _ _ (entered_at e loans p (pages_over e size)) d)
      go (nothing d h) = none h

  -- A REGION'S PICTURE SHOWS ITS LOANS
  pub shows : Shows m e
  shows =
      record {
        asked = λ size. (law e).rounded (pages_for size (unit e));
        knows = (law e).aligns;
        needs = λ size alignment. servable.needs e alignment size;
        servable = servable.servable_same e loans.some_unit is.some_page;
        placed = λ size alignment z. (law e).placed drawing (pages_for size (unit e)) (alignment / unit e) (pages_some size (unit e) loans.some_unit z);
        got = gets;
        held = held_at_lem;
        can_have_lem = λ a size. (law e).can_have_lem drawing (page_in e a) (pages_over e size);
        returned = λ a k x. let h = loan_holds e loans a k x in
            step _ _ _ (amended_at e loans a 0 h.at) ((law e).returned drawing (page_in e a) k h.lent);
        resized = λ a k size x l. let h = loan_holds e loans a k x in
            step _ _ _ (amended_at e loans a (pages_over e size) h.at) ((law e).changed drawing (page_in e a) k (pages_for size (unit e)) h.lent l);
        any = any_held_lem;
        frees = (law e).free_runs drawing;
        helds = lawful.held_pages (law e) drawing ∙ sym (ap loan_pages is.placed ∙ address_pages (unit e) (page_loans e));
      }

  -- the check for 9, by the loans; an address that it lets pass is that of a loan
  pub none_at : (a : ℕ) → eqb (region.held_at m r a) 0 ≡ eqb (pages_at a e.loans) 0
  none_at a = ap (λ (n : ℕ). eqb n 0) (held_at_lem a)

  pub lent_held : (a : ℕ) → eqb (region.held_at m r a) 0 ≡ false → Lent e.loans a (region.held_at m r a)
  lent_held a h = rw (held_at_lem a) (found_lent a e.loans (λ z. eqb-false (region.held_at m r a) 0 h (held_at_lem a ∙ z)))

-- A NEW REGION: its map shows no loans
pub opens : (m : List ℕ) (e : RegionEntry) → e.loans ≡ [] → ¬ (e.name ≡ 0) → ¬ (e.start ≡ 0) → e.start + e.bytes ≤ 4 * length m
    → 1 ≤ e.page → e.page ≤ 4096 → 1 ≤ pages_in e → Steps m e (region.opened m (region_for e)) e.loans
unfolding in_pages at_pages
opens m e fresh named started upto page_some page_most some_page =
    let r = region_for e in
    let ws = draw (free+ (pages_in e) []) in
    let d = (law e).new (span_in e) (pages_allowed e some_page) in
    let some_unit : 0 < unit e = omega (arith, unit_least e page_some) in
    record {
      is = record {
        named = named;
        inside = parts_inside (region.opened m r) e.start e.bytes
            (record { some_start = started; upto = omega (arith, length-sets m (map_at r) ws) });
        page_some = page_some;
        page_most = page_most;
        some_page = some_page;
        placed = rw fresh;
        fits = rw fresh d.fits;
        map = rw fresh (map_stored m r ws (lawful.size (law e) d) (map_fits (kind r).allowed e.start e.bytes (unit e) (length m) some_unit some_page upto) ∙ ap draw d.is);
      };
      only = map_words_only m r ws (lawful.size (law e) d);
    }

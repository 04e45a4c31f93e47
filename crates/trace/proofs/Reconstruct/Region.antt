-- The entry of a region, read off a sound record: its numbers are the record's, and its loans are the held segments of its map, at their
-- addresses. Assumes nothing.
use Rattle.std.specs.Prelude.{Option, None, Some}
use mathlib.Core.Path.{◌≡◌, refl, sym, ap, ◌∙◌, subst}
use mathlib.Core.Bool.{Bool, true, false, cond, ◌&&◌, true≢false}
use mathlib.Core.List.{List}
use Prim.Native.Nat.{ℕ, ◌%◌, ◌≤◌}
use native.Mathlib.Omega.{arith}
use lib.ListN.{length}
use lib.Dec.{eqb, leb}
use borrow.Author.Tests.{eqb-true, eqb-false, leb-true}
use Rattle.manager.proofs.Laws.Lists.{and_first, and_second}
use Rattle.manager.specs.Map.{sound_map, draw}
use Rattle.manager.proofs.Laws.Map.{redraw, sound_tiled}
use Rattle.manager.proofs.Laws.Sound.{live_of, empty_of}
use Rattle.manager.specs.Record.{emptied_region}
use Rattle.manager.specs.Region.{dead, kind_of, kind, pages_of, first_page_of, map_words, segments}
use Rattle.manager.specs.Sound.{inside, sound_page, is_fifo, empty_region, live_region, sound_region}
use Rattle.manager.specs.declared.Region.{Region}
use Rattle.manager.specs.declared.Order.{Order}
use Rattle.manager.specs.declared.Order.TheVariants.{Fifo, Priority, HalvesFifo, HalvesPriority}
use Rattle.trace.specs.Loans.{Loan}
use Rattle.trace.specs.Reading.{loans_of}
use Rattle.trace.specs.Receipts.{RegionEntry, unit, span_in, by_page, page_loans, reading}
use Rattle.trace.proofs.Invariant.{region_as, region_for, at_addresses, RegionIs, RegionSlot, empty, live}
use Rattle.trace.proofs.Frame.{map_fits, pages_allowed, map_length, inside_parts}
use Rattle.trace.proofs.Loans.Addresses.{at_pages, pages_back}
use Rattle.trace.proofs.Loans.Lawful.{sound_loans}
use Rattle.trace.proofs.Segments.{law}

-- the clauses of a live region
pub record RegionParts (m : List ℕ) (r : Region) : Type 0 where
  pub inside : inside m r.start r.length ≡ true
  pub least : 8 ≤ r.page
  pub most : r.page ≤ 4096
  pub whole : r.page % 8 ≡ 0
  pub some_page : 1 ≤ pages_of r
  pub map : sound_map (kind r).proper (map_words m r) ≡ true

pub region_parts : (m : List ℕ) (r : Region) → live_region m r ≡ true → RegionParts m r
unfolding live_region
region_parts m r e =
    let i = inside m r.start r.length in
    let s = leb 1 (pages_of r) && sound_map (kind r).proper (map_words m r) in
    let e₁ = and_second i (sound_page r.page && s) e in
    let p = and_first (sound_page r.page) s e₁ in
    let p₁ = and_second (leb 8 r.page) (leb r.page 4096 && eqb (r.page % 8) 0) p in
    let e₂ = and_second (sound_page r.page) s e₁ in
    record {
      inside = and_first i (sound_page r.page && s) e;
      least = leb-true 8 r.page (and_first (leb 8 r.page) (leb r.page 4096 && eqb (r.page % 8) 0) p);
      most = leb-true r.page 4096 (and_first (leb r.page 4096) (eqb (r.page % 8) 0) p₁);
      whole = eqb-true (r.page % 8) 0 (and_second (leb r.page 4096) (eqb (r.page % 8) 0) p₁);
      some_page = leb-true 1 (pages_of r) (and_first (leb 1 (pages_of r)) (sound_map (kind r).proper (map_words m r)) e₂);
      map = and_second (leb 1 (pages_of r)) (sound_map (kind r).proper (map_words m r)) e₂;
    }

-- the entry of a region, and of a slot
abbrev pub entry_of : List ℕ → Region → RegionEntry
entry_of m r = record { name = r.name; start = r.start; bytes = r.length; page = r.page; order = r.order; loans = at_pages r.page (loans_of (first_page_of r) (segments m r)) }

abbrev pub slot_entry : List ℕ → Region → Option RegionEntry
slot_entry m r = cond (dead r) None (Some (entry_of m r))

-- an empty slot is all zeros but for its generation
pub no_region_lem : (r : Region) → r.name ≡ 0 → empty_region r ≡ true → r ≡ emptied_region r.generation
no_region_lem r n e =
    let a = eqb r.start 0 in
    let b = eqb r.length 0 in
    let c = eqb r.page 0 in
    let f = is_fifo r.order in
    let e₁ = and_second a (b && (c && f)) e in
    let e₂ = and_second b (c && f) e₁ in
    let s : r.start ≡ 0 = eqb-true r.start 0 (and_first a (b && (c && f)) e) in
    let l : r.length ≡ 0 = eqb-true r.length 0 (and_first b (c && f) e₁) in
    let p : r.page ≡ 0 = eqb-true r.page 0 (and_first c f e₂) in
    let o : r.order ≡ Fifo = fifo r.order (and_second c f e₂) in
    λ i. record { name = n i; generation = r.generation; start = s i; length = l i; page = p i; order = o i }
  where
    fifo : (o : Order) → is_fifo o ≡ true → o ≡ Fifo
    fifo Fifo e = refl
    fifo Priority e = absurd (true≢false (sym e))
    fifo HalvesFifo e = absurd (true≢false (sym e))
    fifo HalvesPriority e = absurd (true≢false (sym e))

-- a page size that is a multiple of 8 stays as it is
pub unit_same : (m : List ℕ) (r : Region) → r.page % 8 ≡ 0 → unit (entry_of m r) ≡ r.page
unit_same m r h = omega arith

pub region_back : (m : List ℕ) (r : Region) → r.page % 8 ≡ 0 → r ≡ region_as r.generation (entry_of m r)
region_back m r h =
    let u : r.page ≡ unit (entry_of m r) = sym (unit_same m r h) in
    λ i. record { name = r.name; generation = r.generation; start = r.start; length = r.length; page = u i; order = r.order }

-- a live region, of an entry whose loans are its held segments
pub is_region : (m : List ℕ) (g : ℕ) (e : RegionEntry) → ¬ (e.name ≡ 0) → RegionParts m (region_as g e) → 1 ≤ e.page → e.page ≤ 4096
    → e.loans ≡ at_addresses e (loans_of (first_page_of (region_for e)) (segments m (region_for e))) → RegionIs m e
is_region m g e n q l h s =
    let ws = map_words m (region_for e) in
    let f = map_fits (kind_of e.order).allowed e.start e.bytes (unit e) (length m) (omega (arith, q.least)) q.some_page (inside_parts m e.start e.bytes q.inside).upto in
    let x = sound_loans (law e) (span_in e) ws (pages_allowed e q.some_page) q.map (map_length m (region_for e) f) in
    let l' = loans_of (first_page_of (region_for e)) (segments m (region_for e)) in
    let s' : page_loans e ≡ l' = ap (by_page e) s ∙ pages_back (unit e) (omega (arith, q.least)) l' in
    record {
      named = n;
      inside = q.inside;
      page_some = l;
      page_most = h;
      some_page = q.some_page;
      placed = s ∙ ap (at_addresses e) (sym s');
      fits = subst ((reading e).Fits (span_in e)) (sym s') x.fits;
      map =
          sym (redraw ws (sound_tiled (kind (region_for e)).proper ws q.map)) ∙ ap draw x.is
          ∙ ap (λ (j : List Loan). draw ((reading e).drawn (span_in e) j)) (sym s');
    }

-- A SOUND SLOT IS THE PICTURE OF ITS ENTRY
pub region_read : (m : List ℕ) (r : Region) → sound_region m r ≡ true → RegionSlot m r (slot_entry m r)
region_read m r e = go (dead r) refl
  where
    go : (b : Bool) → dead r ≡ b → RegionSlot m r (cond b None (Some (entry_of m r)))
    go true f =
        subst (λ (x : Region). RegionSlot m x None) (sym (no_region_lem r (eqb-true r.name 0 f) (empty_of m r e f))) (empty r.generation)
    go false f =
        let q = region_parts m r (live_of m r e f) in
        let b = region_back m r q.whole in
        subst (λ (x : Region). RegionSlot m x (Some (entry_of m r))) (sym b)
        (live r.generation (entry_of m r) (is_region m r.generation (entry_of m r) (eqb-false r.name 0 f) (subst (RegionParts m) b q) (omega (arith, q.least)) q.most (ap (λ (x : Region). at_pages x.page (loans_of (first_page_of x) (segments m x))) b)))

-- What a region could serve with nothing lent: the record's test, the receipts' and the claim's say the same, since the map of a new region
-- is drawn from no loans. And the alignments that it allows. All of it rests on what create asked for, and on no loan. Assumes nothing.
use Rattle.std.specs.Prelude.{Option}
use mathlib.Core.Path.{◌≡◌, refl, sym, ap, ◌∙◌}
use mathlib.Core.Bool.{true, true≢false}
use mathlib.Core.List.{[]}
use mathlib.Core.Logic.{◌↔◌}
use Prim.Native.Nat.{ℕ, ◌*◌, ◌/◌, ◌%◌, ◌≤◌, ◌<◌}
use native.Mathlib.Nat.{div-add-mod', mul_assoc, mul-mod_left, pos_of_ne-zero}
use native.Mathlib.Omega.{arith}
use lib.Dec.{eqb, leb}
use borrow.Author.Tests.{eqb-true, leb-true, eq-eqb, le-leb}
use Rattle.arith.specs.Round.{pages_for, OnEvery}
use Rattle.arith.proofs.Laws.Round.{pages_some, every_on}
use Rattle.manager.proofs.Laws.Lists.{and_first, and_second}
use Rattle.manager.specs.Kind.{is_place}
use Rattle.manager.specs.Paged.{free+}
use Rattle.manager.specs.Region.{is_alignment, need_of, servable}
use Rattle.trace.specs.Receipts.{RegionEntry, unit, reading, pages_in, span_in, address_in, need_in, Alignment, servable_in, Servable}
use Rattle.trace.proofs.Invariant.{region_for}
use Rattle.trace.proofs.Frame.{pages_allowed}
use Rattle.trace.proofs.Loans.Lawful.{Drawing, Found, found, nowhere, place_found}
use Rattle.trace.proofs.Segments.{law}

-- ---- alignments

module _ (e : RegionEntry) (alignment : ℕ) where
  -- what a get needs, by the record and by the receipts
  pub needs : (size : ℕ) → need_of (region_for e) size alignment ≡ need_in e size alignment
  needs size = ap (λ (k : ℕ). record { pages = k; every = alignment / unit e }) ((law e).rounded (pages_for size (unit e)))

  -- AN ALIGNMENT IS ALLOWED WHERE ITS TWO TESTS PASS
  pub allows : (reading e).aligns alignment ≡ true → is_alignment (unit e) alignment ≡ true → Alignment e alignment
  allows k h =
      record {
        known = k;
        multiple = eqb-true (alignment % unit e) 0 (and_second (leb alignment 4096) (eqb (alignment % unit e) 0) h);
        most = leb-true alignment 4096 (and_first (leb alignment 4096) (eqb (alignment % unit e) 0) h);
      }

  pub allowed : Alignment e alignment → is_alignment (unit e) alignment ≡ true
  allowed a = rw (le-leb alignment 4096 a.most, eq-eqb (alignment % unit e) 0 a.multiple)

  -- THE ADDRESS OF A PAGE IS A MULTIPLE OF IT where the page's number is one of as many pages
  pub address_on : Alignment e alignment → 0 < alignment → (p : ℕ) → OnEvery (alignment / unit e) p → address_in e p % alignment ≡ 0
  address_on a z p on =
      let c = alignment / unit e in
      let y : c * unit e ≡ alignment = omega (arith, div-add-mod' alignment (unit e), a.multiple) in
      let o : 0 < c = pos_of_ne-zero (λ (n : c ≡ 0). omega (arith, ap (λ (k : ℕ). k * unit e) n)) in
      let x : p / c * c ≡ p = omega (arith, div-add-mod' p c, every_on c p o on) in
      let s : address_in e p ≡ p / c * alignment = ap (λ (k : ℕ). k * unit e) (sym x) ∙ mul_assoc (p / c) c (unit e) ∙ ap (λ (k : ℕ). p / c * k) y in
      rw s (mul-mod_left (p / c) alignment)

-- ---- with nothing lent

module _ (e : RegionEntry) (some_unit : 0 < unit e) (some_page : 1 ≤ pages_in e) where
  unlent : Drawing (reading e) (span_in e) [] (free+ (pages_in e) [])
  unlent = (law e).new (span_in e) (pages_allowed e some_page)

  module _ (size alignment : ℕ) (z : 0 < size) where
    abbrev asked : ℕ
    asked = pages_for size (unit e)

    some_asked : 0 < asked
    some_asked = pages_some size (unit e) some_unit z

    -- BY THE RECORD AND BY THE RECEIPTS
    pub servable_same : servable (region_for e) (need_in e size alignment) ≡ servable_in e size alignment
    servable_same = ap is_place ((law e).placed unlent asked (alignment / unit e) some_asked)

    -- AS A CLAIM SAYS IT
    pub servable_claim : (servable_in e size alignment ≡ true) ↔ Servable e size alignment
    servable_claim = go (place_found (law e) unlent.fits asked (alignment / unit e) some_asked)
      where
        go : {q : Option ℕ} → Found (reading e) (span_in e) [] (need_in e size alignment) q → (is_place q ≡ true) ↔ Servable e size alignment
        go (found p c o) = (λ h. (p, (law e).chosen_serves unlent.fits asked (alignment / unit e) p c), λ s. refl)
        go (nowhere n) = (λ h. absurd (true≢false (sym h)), λ s. absurd (n s.0 s.1))

    -- from the record's test to the claim, and back
    pub record_serves : servable (region_for e) (need_of (region_for e) size alignment) ≡ true → Servable e size alignment
    record_serves h = servable_claim.0 (sym (ap (servable (region_for e)) (needs e alignment size) ∙ servable_same) ∙ h)

    pub serves_record : Servable e size alignment → servable (region_for e) (need_of (region_for e) size alignment) ≡ true
    serves_record s = ap (servable (region_for e)) (needs e alignment size) ∙ servable_same ∙ servable_claim.1 s

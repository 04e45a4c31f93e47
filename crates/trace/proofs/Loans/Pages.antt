-- A region of pages is a lawful kind. Assumes nothing.
use Rattle.std.specs.Prelude.{Option}
use mathlib.Core.Path.{◌≡◌, refl, ap, sym, ◌∙◌}
use mathlib.Core.Bool.{true}
use mathlib.Core.Logic.{◌↔◌}
use mathlib.Core.List.{List}
use Prim.Native.Nat.{ℕ, ◌+◌, ◌≤◌, ◌<◌}
use native.Mathlib.Nat.{le_refl}
use native.Mathlib.Omega.{arith}
use lib.Dec.{leb}
use borrow.Author.Tests.{leb-true, le-leb}
use Rattle.manager.specs.Map.{Segment, free_sizes, total}
use Rattle.manager.specs.Kind.{allocate}
use Rattle.manager.specs.Paged.{paged, place_from, reach_from, change_from}
use Rattle.manager.specs.declared.Need.{Need}
use Rattle.manager.proofs.Laws.Apart.{Well, well_sized, well_made_of, well_proper}
use Rattle.manager.proofs.Laws.Paged.{fit_is}
use Rattle.manager.proofs.Laws.Kinds.{Stands}
use Rattle.trace.specs.Loans.{Loan, amend, Lent, Ordered, Span, behind}
use Rattle.trace.specs.Reading.{loans_of}
use Rattle.trace.specs.Pages.{Room, lowest_run, most_pages_at, pages}
use Rattle.trace.proofs.Loans.Get.{Got, gave, lacks, got_from, lowest_from}
use Rattle.trace.proofs.Loans.Change as change
use Rattle.trace.proofs.Loans.Redrawn.{well, total_drawn, drawn_says, free_runs, drawn_new, ordered_new, ordered_of, drawn_of}
use Rattle.trace.proofs.Loans.Lawful.{Drawing, Gets, given, nothing, asking, Lawful}

gets : {a : Span} {w : Need} {l : List Loan} {g : Option ℕ} {s : List Segment} → Ordered (behind a) a.first l → Got a a.first l w g s
    → Gets pages a l w g s
gets o (gave p e i b run on low) = given p (record { fits = i; is = e }) (record { run = run; starts = on; first = λ q u. low q u.from u })
gets o (lacks e no_run) = nothing (record { fits = o; is = e }) (λ q u. no_run q u.run.from u.starts u.run)

module _ {a : Span} {l : List Loan} {s : List Segment} (d : Drawing pages a l s) where
  is_well : Well true s
  is_well = rw d.is (well (behind a) a.first l d.fits)

  all_pages : total s ≡ a.count
  all_pages = rw d.is (omega (arith, total_drawn (behind a) a.first l d.fits))

  got : (w : Need) → 0 < w.pages → Gets pages a l w (place_from w a.first s) (allocate paged w a.first s)
  got w z = rw (fit_is w a.first s z, d.is) (gets d.fits (got_from a w a.first l (le_refl a.first) d.fits z))

  -- the place is the lowest run by the loans
  place_lowest : (w : Need) → 0 < w.pages → place_from w a.first s ≡ lowest_run (behind a) w a.first l
  place_lowest w z = ap (place_from w a.first) d.is ∙ lowest_from (behind a) w a.first l z d.fits

  reach : (p : ℕ) → reach_from p a.first s ≡ most_pages_at (behind a) p l
  reach p = ap (reach_from p a.first) d.is ∙ change.most_from (behind a) p a.first l d.fits

  changed : (p m k : ℕ) → Lent l p m → k ≤ most_pages_at (behind a) p l → Drawing pages a (amend p k l) (change_from p k a.first s)
  changed p m k x h =
      let c = change.changed (behind a) a.first l p m k d.fits x (rw (change.most_from (behind a) p a.first l d.fits) h) in
      record { fits = c.1; is = ap (change_from p k a.first) d.is ∙ c.0 }

room : {a : Span} {l : List Loan} → Ordered (behind a) a.first l → (p m k : ℕ) → Lent l p m → (k ≤ most_pages_at (behind a) p l) ↔ Room a l p m k
room {a} {l} o p m k x = rw (change.most_from (behind a) p a.first l o) at (change.reach_is a a.first l p m k o x)

loans : (a : Span) (s : List Segment) → Stands paged s → total s ≡ a.count → Drawing pages a (loans_of a.first s) s
loans a s h e =
    let w = well_made_of s h.sized h.proper in
    let t : a.first + total s ≡ behind a = omega arith in
    record { fits = ordered_of (behind a) a.first true s w t; is = drawn_of (behind a) a.first true s w t }

-- PAGES ARE LAWFUL
pub paged_lawful : Lawful paged pages
paged_lawful =
    record {
      rounded = λ j. refl;
      stands = λ {a} {l} {s} d. record { sized = well_sized true s (is_well d); proper = well_proper s (is_well d) };
      pages = all_pages;
      says = λ {a} {l} {s} d. ap (loans_of a.first) d.is ∙ drawn_says (behind a) a.first l d.fits;
      loans = λ a s n h e. loans a s h e;
      new = λ a n. record { fits = ordered_new a.count a.first; is = sym (drawn_new a.count a.first) };
      aligns = λ alignment. refl;
      aligned = λ alignment k z a n p x. x;
      chosen_serves = λ o j every p x. record { starts = x.starts; run = x.run };
      placed = λ d j every z. place_lowest d (asking pages j every) z;
      got = λ d j every z. got d (asking pages j every) z;
      can_have_lem = λ d p k. ap (leb k) (reach d p);
      room = λ {a} {l} o p m k x. let r = room o p m k x in
          (λ h. r.0 (leb-true k (most_pages_at (behind a) p l) h), λ i. le-leb k (most_pages_at (behind a) p l) (r.1 i));
      returned = λ d p m x. changed d p m 0 x (omega arith);
      changed = λ {a} {l} d p m k x h. changed d p m k x (leb-true k (most_pages_at (behind a) p l) h);
      free_runs = λ {a} {l} d. ap free_sizes d.is ∙ free_runs (behind a) a.first l;
    }

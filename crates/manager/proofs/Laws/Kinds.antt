-- What every kind of region keeps, so that the stores in its map and what they leave alone are shown once for every kind: its pages stay as
-- many, a sound map stays sound, and what changes a held segment asks not from where pages are counted. Assumes nothing.
use Rattle.std.specs.Prelude.{Option, None, Some}
use Prim.Native.Nat.{ℕ, ◌+◌, ◌≤◌}
use mathlib.Core.Path.{◌≡◌, refl, sym, ap, ◌∙◌}
use mathlib.Core.Bool.{Bool, true, false, cond}
use mathlib.Core.List.{List, [], ◌∷◌}
use native.Mathlib.Omega.{arith}
use native.Mathlib.Nat.{add-zero}
use lib.Dec.{eqb, leb}
use borrow.Author.Tests.{leb-true, eqb-true, ne_eqb}
use Rattle.arith.specs.Power.{level}
use Rattle.arith.proofs.Laws.Power.{some_power}
use Rattle.manager.specs.Lists.{any}
use Rattle.manager.specs.Map.{Segment, free, held, is_held_segment, total}
use Rattle.manager.specs.Kind.{Kind, on_place, allocate, held_from}
use Rattle.manager.specs.Paged.{paged, reach_from}
use Rattle.manager.specs.Halves.{place_block, occupy_block, release_block, halves}
use Rattle.manager.specs.Region.{by_halves, kind_of}
use Rattle.manager.specs.declared.Order.{Order}
use Rattle.manager.specs.declared.Need.{Need}
use Rattle.manager.proofs.Laws.Map.{Sized}
use Rattle.manager.proofs.Laws.Apart.{Well, well_sized, well_made_of, well_proper}
use Rattle.manager.proofs.Laws.Paged as pages
use Rattle.manager.proofs.Laws.Shift as pages-shift
use Rattle.manager.proofs.Laws.Shift.{held_shift}
use Rattle.manager.proofs.Laws.Halves.Cut.{Halved, halved_sized, halved_total, proper_of, proper_halved, none_held}
use Rattle.manager.proofs.Laws.Halves.Place.{free_within, place_best}
use Rattle.manager.proofs.Laws.Halves.Take.{occupy_total, occupy_halved}
use Rattle.manager.proofs.Laws.Halves.Release.{release_total, release_halved}
use Rattle.manager.proofs.Laws.Halves.Shift as halves-shift

-- segments as a sound map of the kind has them
pub record Stands (K : Kind) (s : List Segment) : Type 0 where
  pub sized : Sized s
  pub proper : K.proper s ≡ true

pub record Keeps (K : Kind) : Type 0 where
  -- who asks for a page is given one
  pub rounded_some : (k : ℕ) → 1 ≤ k → 1 ≤ K.rounded k
  -- a get has its pages in the map
  pub place_in : (w : Need) (at : ℕ) (s : List Segment) (p : ℕ) → 1 ≤ w.pages → K.place w at s ≡ Some p → (at ≤ p) × (p + w.pages ≤ at + total s)
  -- the pages stay as many
  pub total_take : (w : Need) (at : ℕ) (s : List Segment) → total (allocate K w at s) ≡ total s
  pub total_return : (p at : ℕ) (s : List Segment) → total (K.change p 0 at s) ≡ total s
  pub total_change : (p k at : ℕ) (s : List Segment) → K.can_have p k at s ≡ true → total (K.change p k at s) ≡ total s
  -- a sound map stays so
  pub stands_take : (w : Need) (at : ℕ) (s : List Segment) → 1 ≤ w.pages → Stands K s → Stands K (allocate K w at s)
  pub stands_return : (p at : ℕ) (s : List Segment) → 1 ≤ held_from p at s → Stands K s → Stands K (K.change p 0 at s)
  pub stands_change : (p k at : ℕ) (s : List Segment) → 1 ≤ k → Stands K s → Stands K (K.change p k at s)
  -- pages counted from elsewhere
  pub have_shift : (by p k at : ℕ) (s : List Segment) → K.can_have (by + p) k (by + at) s ≡ K.can_have p k at s
  pub change_shift : (by p k at : ℕ) (s : List Segment) → K.change (by + p) k (by + at) s ≡ K.change p k at s
  -- a segment can have no more than the pages of the map
  pub have_few : (p k at : ℕ) (s : List Segment) → K.can_have p k at s ≡ true → k ≤ total s
  -- with nothing held it is one free segment
  pub none_held : (s : List Segment) → 1 ≤ total s → Stands K s → any is_held_segment s ≡ false → s ≡ free (total s) ∷ []

-- ---- of pages

well_of : (s : List Segment) → Stands paged s → Well true s
well_of s h = well_made_of s h.sized h.proper

of_well : (s : List Segment) → Well true s → Stands paged s
of_well s w = record { sized = well_sized true s w; proper = well_proper s w }

pages_none : (s : List Segment) → 1 ≤ total s → Well true s → any is_held_segment s ≡ false → s ≡ free (total s) ∷ []
unfolding any total
pages_none [] o w e = absurd (omega arith)
pages_none (held n ∷ s) o w e = absurd (let z : ◌≡◌ {A = ℕ} 0 1 = cc in omega arith)
pages_none (free n ∷ []) o w e = rw (add-zero n)
pages_none (free n ∷ free m ∷ s) o w e = absurd (let z : ◌≡◌ {A = ℕ} 0 1 = cc in omega arith)
pages_none (free n ∷ held m ∷ s) o w e = absurd (let z : ◌≡◌ {A = ℕ} 0 1 = cc in omega arith)

paged_keeps : Keeps paged
paged_keeps =
    record {
      rounded_some = λ k h. h;
      place_in = pages.place_within;
      total_take = pages.total_take;
      total_return = λ p at s. pages.total_change p 0 at s (omega arith);
      total_change = λ p k at s e. pages.total_change p k at s (leb-true k (reach_from p at s) e);
      stands_take = λ w at s o h. of_well _ (pages.well_take w at s o (well_of s h));
      stands_return = λ p at s l h. of_well _ (pages.well_change p 0 at s (well_of s h));
      stands_change = λ p k at s o h. of_well _ (pages.well_change p k at s (well_of s h));
      have_shift = λ by p k at s. ap (leb k) (pages-shift.reach_shift by p at s);
      change_shift = pages-shift.change_shift;
      have_few = λ p k at s e. omega (arith, leb-true k (reach_from p at s) e, pages.reach_within p at s);
      none_held = λ s o h e. pages_none s o (well_of s h) e;
    }

-- ---- by halves

halved_of : (s : List Segment) → Stands halves s → Halved (level (total s)) s
halved_of s h = proper_halved s h.proper

of_halved : {j : ℕ} {s : List Segment} → Halved j s → Stands halves s
of_halved h = record { sized = halved_sized h; proper = proper_of h }

blocks_in : (k at : ℕ) (s : List Segment) (p : ℕ) → 1 ≤ k → place_block k at s ≡ Some p → (at ≤ p) × (p + k ≤ at + total s)
blocks_in k at s p o e =
    let h = place_best k at s o p e in
    let w = free_within s at p h.pages h.free in
    (w.0, omega (arith, h.enough, w.1))

module _ (w : Need) (at : ℕ) (s : List Segment) where
  by_place : (C : List Segment → Type 0) → ((p : ℕ) → place_block w.pages at s ≡ Some p → C (occupy_block p w.pages at s)) → C s
      → C (allocate halves w at s)
  by_place C f z = go (place_block w.pages at s) refl
    where
      go : (q : Option ℕ) → place_block w.pages at s ≡ q → C (on_place q (λ p. occupy_block p w.pages at s) s)
      go (Some p) e = f p e
      go None e = z

halves_take : (w : Need) (at : ℕ) (s : List Segment) → 1 ≤ w.pages → Stands halves s → Stands halves (allocate halves w at s)
halves_take w at s o h =
    by_place w at s (Stands halves)
    (λ p e. let b = place_best w.pages at s o p e in of_halved (occupy_halved p w.pages b.pages at (halved_of s h) b.free)) h

halves_keeps : Keeps halves
halves_keeps =
    record {
      rounded_some = λ k h. some_power (level k);
      place_in = λ w. blocks_in w.pages;
      total_take = λ w at s. by_place w at s (λ (t : List Segment). total t ≡ total s) (λ p e. occupy_total p w.pages at s) refl;
      total_return = λ p at s. release_total (level (total s)) p at s;
      total_change = λ p k at s e. changed (eqb k 0) p at s;
      stands_take = halves_take;
      stands_return = λ p at s l h. of_halved (release_halved p at (halved_of s h) l);
      stands_change = λ p k at s o h. kept p k at s o h;
      have_shift = λ by p k at s. ap (eqb k) (held_shift by p at s);
      change_shift = λ by p k at s. ap (λ (t : List Segment). cond (eqb k 0) t s) (halves-shift.release_shift by (level (total s)) p at s);
      have_few = λ p k at s e. omega (arith, eqb-true k (held_from p at s) e, pages.held_within p at s);
      none_held = λ s o h e. let x = halved_of s h in none_held x e ∙ ap (λ (n : ℕ). free n ∷ []) (sym (halved_total x));
    }
  where
    changed : (b : Bool) (p at : ℕ) (s : List Segment) → total (cond b (release_block (level (total s)) p at s) s) ≡ total s
    changed true p at s = release_total (level (total s)) p at s
    changed false p at s = refl

    kept : (p k at : ℕ) (s : List Segment) → 1 ≤ k → Stands halves s → Stands halves (halves.change p k at s)
    kept p k at s o h = rw (ne_eqb k 0 (λ z. omega arith)) h

-- EVERY KIND KEEPS
pub keeps : (o : Order) → Keeps (kind_of o)
keeps o = go (by_halves o)
  where
    go : (b : Bool) → Keeps (cond b halves paged)
    go true = halves_keeps
    go false = paged_keeps

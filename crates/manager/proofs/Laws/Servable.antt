-- What a region could serve with nothing held, by its kind: its map is then one free segment, and the search looks at no other. Assumes
-- nothing.
use Rattle.std.specs.Prelude.{None, Some}
use Prim.Native.Nat.{ℕ, zero, suc, ◌≤◌}
use mathlib.Core.Path.{◌≡◌, refl}
use mathlib.Core.Bool.{Bool, true, false, cond}
use mathlib.Core.List.{[], ◌∷◌}
use native.Mathlib.Omega.{arith}
use lib.Dec.{eqb, leb}
use borrow.Author.Tests.{eq-eqb, ne_eqb}
use Rattle.arith.specs.Round.{align_up}
use Rattle.arith.specs.declared.Layout.{Layout}
use Rattle.manager.specs.Map.{free}
use Rattle.manager.specs.Kind.{is_place}
use Rattle.manager.specs.Paged.{free+, room_from, place_from, paged}
use Rattle.manager.specs.Halves.{smallest, lowest_free, place_block, halves}
use Rattle.manager.specs.Region.{servable_at}
use Rattle.manager.specs.declared.Need.{Need}

is_place_lem : (b : Bool) (p : ℕ) → is_place (cond b (Some p) None) ≡ b
is_place_lem true p = refl
is_place_lem false p = refl

-- of pages: as many as are left from the first page on the alignment on
pages_serve : (w : Need) (at n : ℕ) → 1 ≤ n → is_place (place_from w at (free+ n [])) ≡ leb w.pages (room_from w.every at n)
unfolding place_from free+
pages_serve w at zero o = absurd (omega arith)
pages_serve w at (suc n) o = is_place_lem (leb w.pages (room_from w.every at (suc n))) (align_up w.every at)

pub servable_pages : (l : Layout) (w : Need) → 1 ≤ l.pages → servable_at paged l w ≡ leb w.pages (room_from w.every l.first l.pages)
servable_pages l w o = pages_serve w l.first l.pages o

-- by halves: as many as there are
halves_serve : (k at n : ℕ) → 1 ≤ n → is_place (place_block k at (free+ n [])) ≡ leb k n
unfolding place_block smallest lowest_free free+
halves_serve k at zero o = absurd (omega arith)
halves_serve k at (suc n) o = go (leb k (suc n))
  where
    go : (b : Bool) → is_place (cond (eqb (cond b (suc n) 0) 0) None (lowest_free (cond b (suc n) 0) at (free (suc n) ∷ []))) ≡ b
    go true = rw (ne_eqb (suc n) 0 (λ e. omega arith), eq-eqb (suc n) (suc n) refl)
    go false = refl

pub servable_halves : (l : Layout) (w : Need) → 1 ≤ l.pages → servable_at halves l w ≡ leb w.pages l.pages
servable_halves l w o = halves_serve w.pages l.first l.pages o

-- nothing where it has no page
pub servable_none : (l : Layout) (w : Need) → l.pages ≡ 0 → (servable_at paged l w ≡ false) × (servable_at halves l w ≡ false)
unfolding place_from place_block smallest free+
servable_none l w e = (rw e, rw e)

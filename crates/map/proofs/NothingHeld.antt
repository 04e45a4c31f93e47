-- What a region could serve with nothing held, where code has asked for its kind. Assumes nothing.
use Prim.Native.Nat.{ℕ}
use mathlib.Core.Path.{◌≡◌, sym, ap, ◌∙◌}
use mathlib.Core.Bool.{Bool, true, false, cond}
use native.Mathlib.Nat.{pos_of_ne-zero}
use lib.Dec.{leb}
use Rattle.arith.specs.declared.Layout.{Layout}
use Rattle.manager.specs.Kind.{Kind}
use Rattle.manager.specs.Paged.{room_from, paged}
use Rattle.manager.specs.Halves.{halves}
use Rattle.manager.specs.Region.{by_halves, kind_of, servable_at}
use Rattle.manager.specs.declared.Need.{Need}
use Rattle.manager.specs.declared.Order.{Order}
use Rattle.manager.proofs.Laws.Servable.{servable_pages, servable_halves, servable_none}
use Rattle.map.proofs.Order.{kind_halves, kind_pages}

-- by the kind: what it could serve with nothing held
module _ (o : Order) (b : Bool) (e : b ≡ by_halves o) where
  module _ (l : Layout) (w : Need) (some : l.pages ≡ 0 → ⊥) where
    pub serves_halves : b ≡ true → leb w.pages l.pages ≡ servable_at (kind_of o) l w
    serves_halves h = sym (ap (λ (K : Kind). servable_at K l w) (kind_halves o b e h) ∙ servable_halves l w (pos_of_ne-zero some))

    pub serves_pages : b ≡ false → (n : ℕ) → n ≡ room_from w.every l.first l.pages → leb w.pages n ≡ servable_at (kind_of o) l w
    serves_pages h n x =
        ap (leb w.pages) x ∙ sym (ap (λ (K : Kind). servable_at K l w) (kind_pages o b e h) ∙ servable_pages l w (pos_of_ne-zero some))

pub serves_none : (o : Order) (l : Layout) (w : Need) → l.pages ≡ 0 → false ≡ servable_at (kind_of o) l w
serves_none o l w z = sym (go (by_halves o))
  where
    go : (b : Bool) → servable_at (cond b halves paged) l w ≡ false
    go true = (servable_none l w z).1
    go false = (servable_none l w z).0

-- A return by halves: the block is free, and what it makes whole with its other half is one block, level by level upwards; the map stays one
-- got by halving. Assumes nothing.
use Prim.Native.Nat.{ℕ, zero, suc, ◌+◌, ◌^◌, ◌≤◌, ◌<◌}
use mathlib.Core.Path.{◌≡◌, refl, sym, ap, ◌∙◌}
use mathlib.Core.Logic.{◌⊎◌, inl, inr}
use mathlib.Core.Bool.{Bool, true, false, cond, ◌&&◌}
use mathlib.Core.List.{List, [], ◌∷◌, ◌++◌}
use native.Mathlib.Omega.{arith}
use lib.Dec.{eqb, ltb}
use borrow.Author.Tests.{ne_eqb, lt-ltb, le-ltb, ltb-true, ltb-false}
use Rattle.arith.proofs.Laws.Power.{double}
use Rattle.manager.specs.Kind.{held_from}
use Rattle.manager.specs.Map.{Segment, free, held, size_of, total}
use Rattle.manager.specs.Halves.{low_of, high_of, is_whole, is_free, join, release_block}
use Rattle.manager.proofs.Laws.Map.{Sized, total_append}
use Rattle.manager.proofs.Laws.Halves.Cut.{split, low_of_lem, high_of_lem, total_one, Halved, one, two, halved_sized, halved_total, two_not_whole}

-- ---- what is held in a map of two parts

held_before : (p at : ℕ) (s : List Segment) → p < at → held_from p at s ≡ 0
unfolding held_from
held_before p at [] h = refl
held_before p at (free n ∷ s) h = held_before p (at + n) s (omega arith)
held_before p at (held n ∷ s) h = rw (ne_eqb at p (λ e. omega arith)) (held_before p (at + n) s (omega arith))

pub held_left : (p at : ℕ) (a b : List Segment) → p < at + total a → held_from p at (a ++ b) ≡ held_from p at a
unfolding held_from total
held_left p at [] b h = held_before p at b (omega arith)
held_left p at (free n ∷ a) b h = held_left p (at + n) a b (omega arith)
held_left p at (held n ∷ a) b h = ap (λ (x : ℕ). cond (eqb at p) n x) (held_left p (at + n) a b (omega arith))

pub held_right : (p at : ℕ) (a b : List Segment) → Sized a → at + total a ≤ p → held_from p at (a ++ b) ≡ held_from p (at + total a) b
unfolding held_from total
held_right p at [] b w h = let e : at + 0 ≡ at = omega arith in rw e
held_right p at (free n ∷ a) b w h =
    let e : at + n + total a ≡ at + (n + total a) = omega arith in
    rw e at (held_right p (at + n) a b w.1 (omega arith))
held_right p at (held n ∷ a) b w h =
    let e : at + n + total a ≡ at + (n + total a) = omega arith in
    rw (ne_eqb at p (λ z. omega (arith, w.0))) (rw e at (held_right p (at + n) a b w.1 (omega arith)))

-- ---- two halves put together

pub join_total : (a b : List Segment) → total (join a b) ≡ total a + total b
unfolding join total
join_total a b = go (is_free a && is_free b)
  where
    go : (t : Bool) → total (cond t (free (total a + total b) ∷ []) (a ++ b)) ≡ total a + total b
    go true = omega arith
    go false = total_append a b

pub join_halved : (j : ℕ) (a b : List Segment) → Halved j a → Halved j b → Halved (suc j) (join a b)
unfolding join
join_halved j a b x y = go (is_free a && is_free b) refl
  where
    go : (t : Bool) → (is_free a && is_free b) ≡ t → Halved (suc j) (cond t (free (total a + total b) ∷ []) (a ++ b))
    go true e = one (suc j) (free (total a + total b)) (omega (arith, halved_total x, halved_total y, double j))
    go false e = two j a b x y e

-- ---- a block freed

pub release_total : (j p at : ℕ) (s : List Segment) → total (release_block j p at s) ≡ total s
unfolding release_block
release_total zero p at s = total_one (free (total s))
release_total (suc j) p at s =
    go (is_whole s) (ltb p (at + 2 ^ j)) (release_total j p at (low_of (2 ^ j) s)) (release_total j p (at + 2 ^ j) (high_of (2 ^ j) s))
  where
    a : List Segment
    a = low_of (2 ^ j) s

    b : List Segment
    b = high_of (2 ^ j) s

    both : total a + total b ≡ total s
    both = sym (total_append a b) ∙ ap total (split (2 ^ j) s)

    go : (w t : Bool) → total (release_block j p at a) ≡ total a → total (release_block j p (at + 2 ^ j) b) ≡ total b
        → total (cond w (free (total s) ∷ []) (cond t (join (release_block j p at a) b) (join a (release_block j p (at + 2 ^ j) b)))) ≡ total s
    go true t low high = total_one (free (total s))
    go false true low high = omega (arith, join_total (release_block j p at a) b, both)
    go false false low high = omega (arith, join_total a (release_block j p (at + 2 ^ j) b), both)

-- of one segment, and of two halves
pub release_one : (j p at : ℕ) (g : Segment) → release_block j p at (g ∷ []) ≡ free (size_of g) ∷ []
unfolding release_block is_whole
release_one zero p at g = ap (λ (n : ℕ). free n ∷ []) (total_one g)
release_one (suc j) p at g = ap (λ (n : ℕ). free n ∷ []) (total_one g)

module _ (j p at : ℕ) (a b : List Segment) (x : Halved j a) (y : Halved j b) where
  pub release_low : p < at + 2 ^ j → release_block (suc j) p at (a ++ b) ≡ join (release_block j p at a) b
  unfolding release_block
  release_low h =
      rw (two_not_whole x y, low_of_lem (2 ^ j) a b (halved_sized x) (halved_total x), high_of_lem (2 ^ j) a b (halved_sized x) (halved_total x), lt-ltb p (at + 2 ^ j) h)

  pub release_high : at + 2 ^ j ≤ p → release_block (suc j) p at (a ++ b) ≡ join a (release_block j p (at + 2 ^ j) b)
  unfolding release_block
  release_high h =
      rw (two_not_whole x y, low_of_lem (2 ^ j) a b (halved_sized x) (halved_total x), high_of_lem (2 ^ j) a b (halved_sized x) (halved_total x), le-ltb p (at + 2 ^ j) h)

-- where a held block of two halves is: in the low one, or in the high one
pub held_half : (j p at : ℕ) (a b : List Segment) → Halved j a → 1 ≤ held_from p at (a ++ b)
    → ((p < at + 2 ^ j) × (1 ≤ held_from p at a)) ⊎ ((at + 2 ^ j ≤ p) × (1 ≤ held_from p (at + 2 ^ j) b))
held_half j p at a b x h = go (ltb p (at + 2 ^ j)) refl
  where
    go : (t : Bool) → ltb p (at + 2 ^ j) ≡ t → ((p < at + 2 ^ j) × (1 ≤ held_from p at a)) ⊎ ((at + 2 ^ j ≤ p) × (1 ≤ held_from p (at + 2 ^ j) b))
    go true e =
        let l = ltb-true p (at + 2 ^ j) e in
        inl (l, omega (arith, held_left p at a b (omega (arith, halved_total x))))
    go false e =
        let l = ltb-false p (at + 2 ^ j) e in
        let r : held_from p at (a ++ b) ≡ held_from p (at + 2 ^ j) b = rw (halved_total x) at (held_right p at a b (halved_sized x) (omega (arith, halved_total x))) in
        inr (l, omega arith)

-- THE MAP STAYS ONE GOT BY HALVING
pub release_halved : (p : ℕ) {j : ℕ} {s : List Segment} (at : ℕ) → Halved j s → 1 ≤ held_from p at s → Halved j (release_block j p at s)
release_halved p at (one j g e) h = rw (release_one j p at g) (one j (free (size_of g)) e)
release_halved p at (two j a b x y f) h = go (held_half j p at a b x h) (λ u. release_halved p at x u) (λ u. release_halved p (at + 2 ^ j) y u)
  where
    go : ((p < at + 2 ^ j) × (1 ≤ held_from p at a)) ⊎ ((at + 2 ^ j ≤ p) × (1 ≤ held_from p (at + 2 ^ j) b))
        → (1 ≤ held_from p at a → Halved j (release_block j p at a)) → (1 ≤ held_from p (at + 2 ^ j) b → Halved j (release_block j p (at + 2 ^ j) b))
        → Halved (suc j) (release_block (suc j) p at (a ++ b))
    go (inl u) low high = rw (release_low j p at a b x y u.0) (join_halved j (release_block j p at a) b (low u.1) y)
    go (inr u) low high = rw (release_high j p at a b x y u.0) (join_halved j a (release_block j p (at + 2 ^ j) b) x (high u.1))

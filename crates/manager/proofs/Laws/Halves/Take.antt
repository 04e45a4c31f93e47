-- A get by halves: the block that serves is cut into one held part and free high halves, and the map stays one got by halving. Assumes
-- nothing.
use Prim.Native.Nat.{ℕ, zero, suc, ◌+◌, ◌-◌, ◌/◌, ◌^◌, ◌≤◌}
use mathlib.Core.Path.{◌≡◌, refl, sym, ap}
use mathlib.Core.Logic.{◌⊎◌, inl, inr}
use mathlib.Core.Bool.{Bool, true, false, cond, and-false}
use mathlib.Core.List.{List, [], ◌∷◌, ◌++◌, append_assoc, append-nil}
use native.Mathlib.Omega.{arith}
use lib.Dec.{eqb, leb}
use borrow.Author.Tests.{eq-eqb, ne_eqb}
use Rattle.arith.specs.Power.{level}
use Rattle.arith.proofs.Laws.Power.{double, half, level_power}
use Rattle.manager.specs.Lists.{any}
use Rattle.manager.specs.Map.{Segment, free, held, is_held_segment, size_of, total}
use Rattle.manager.specs.Halves.{is_free, FreeAt, carve, occupy_block}
use Rattle.manager.proofs.Laws.Map.{Sized, total_append}
use Rattle.manager.proofs.Laws.Halves.Cut.{Halved, one, two, halved_sized, held_not, any_left}
use Rattle.manager.proofs.Laws.Halves.Place.{free_within, free_part}

-- ---- a block that is cut

pub carve_total : (j k b : ℕ) → total (carve j k b) ≡ b
unfolding carve total
carve_total zero k b = omega arith
carve_total (suc j) k b = go (leb b k) (carve_total j k (b / 2))
  where
    go : (t : Bool) → total (carve j k (b / 2)) ≡ b / 2
        → total (cond t (held b ∷ []) (carve j k (b / 2) ++ (free (b - b / 2) ∷ []))) ≡ b
    go true h = omega arith
    go false h = omega (arith, total_append (carve j k (b / 2)) (free (b - b / 2) ∷ []))

-- its first part is held
pub carve_held : (j k b : ℕ) → any is_held_segment (carve j k b) ≡ true
unfolding carve any
carve_held zero k b = refl
carve_held (suc j) k b = go (leb b k) (carve_held j k (b / 2))
  where
    go : (t : Bool) → any is_held_segment (carve j k (b / 2)) ≡ true
        → any is_held_segment (cond t (held b ∷ []) (carve j k (b / 2) ++ (free (b - b / 2) ∷ []))) ≡ true
    go true h = refl
    go false h = any_left (carve j k (b / 2)) (free (b - b / 2) ∷ []) h

-- one level of a block of 2^j pages
pub carve_step : (j k : ℕ) → carve (suc j) k (2 ^ suc j) ≡ cond (leb (2 ^ suc j) k) (held (2 ^ suc j) ∷ []) (carve j k (2 ^ j) ++ (free (2 ^ j) ∷ []))
unfolding carve
carve_step j k =
    let h = half j in
    let r : 2 ^ suc j - 2 ^ j ≡ 2 ^ j = omega (arith, double j) in
    rw (h, r)

pub carve_halved : (j k : ℕ) → Halved j (carve j k (2 ^ j))
unfolding carve is_free
carve_halved zero k = one 0 (held (2 ^ 0)) refl
carve_halved (suc j) k = rw (carve_step j k) (go (leb (2 ^ suc j) k) (carve_halved j k))
  where
    go : (t : Bool) → Halved j (carve j k (2 ^ j)) → Halved (suc j) (cond t (held (2 ^ suc j) ∷ []) (carve j k (2 ^ j) ++ (free (2 ^ j) ∷ [])))
    go true h = one (suc j) (held (2 ^ suc j)) refl
    go false h = two j _ _ h (one j (free (2 ^ j)) refl) (rw (held_not (carve j k (2 ^ j)) (carve_held j k (2 ^ j))))

-- ---- the block within its map

pub occupy_total : (p k at : ℕ) (s : List Segment) → total (occupy_block p k at s) ≡ total s
unfolding occupy_block total
occupy_total p k at [] = refl
occupy_total p k at (held n ∷ s) = omega (arith, occupy_total p k (at + n) s)
occupy_total p k at (free n ∷ s) = go (eqb at p) (occupy_total p k (at + n) s)
  where
    go : (t : Bool) → total (occupy_block p k (at + n) s) ≡ total s → total (cond t (carve (level n) k n ++ s) (free n ∷ occupy_block p k (at + n) s)) ≡ n + total s
    go true h = omega (arith, total_append (carve (level n) k n) s, carve_total (level n) k n)
    go false h = omega arith

-- in the first of two parts, and in the second
pub occupy_left : (p k at n : ℕ) (a b : List Segment) → Sized a → FreeAt a at p n → occupy_block p k at (a ++ b) ≡ occupy_block p k at a ++ b
unfolding occupy_block FreeAt
occupy_left p k at n [] b w x = absurd x
occupy_left p k at n (held m ∷ a) b w x = ap (λ (t : List Segment). held m ∷ t) (occupy_left p k (at + m) n a b w.1 x)
occupy_left p k at n (free m ∷ a) b w (inl x) = rw (eq-eqb at p x.0) (sym (append_assoc (carve (level m) k m) a b))
occupy_left p k at n (free m ∷ a) b w (inr x) =
    let f : eqb at p ≡ false = ne_eqb at p (λ e. omega (arith, w.0, (free_within a (at + m) p n x).0)) in
    rw f (ap (λ (t : List Segment). free m ∷ t) (occupy_left p k (at + m) n a b w.1 x))

pub occupy_right : (p k at : ℕ) (a b : List Segment) → Sized a → at + total a ≤ p → occupy_block p k at (a ++ b) ≡ a ++ occupy_block p k (at + total a) b
unfolding occupy_block total
occupy_right p k at [] b w h = let e : at + 0 ≡ at = omega arith in rw e
occupy_right p k at (held m ∷ a) b w h =
    let e : at + m + total a ≡ at + (m + total a) = omega arith in
    ap (λ (t : List Segment). held m ∷ t) (rw e at (occupy_right p k (at + m) a b w.1 (omega arith)))
occupy_right p k at (free m ∷ a) b w h =
    let e : at + m + total a ≡ at + (m + total a) = omega arith in
    let f : eqb at p ≡ false = ne_eqb at p (λ z. omega (arith, w.0)) in
    rw f (ap (λ (t : List Segment). free m ∷ t) (rw e at (occupy_right p k (at + m) a b w.1 (omega arith))))

-- something is held then
pub occupy_held : (p k at n : ℕ) (s : List Segment) → Sized s → FreeAt s at p n → any is_held_segment (occupy_block p k at s) ≡ true
unfolding occupy_block FreeAt any
occupy_held p k at n [] w x = absurd x
occupy_held p k at n (held m ∷ s) w x = refl
occupy_held p k at n (free m ∷ s) w (inl x) = rw (eq-eqb at p x.0) (any_left (carve (level m) k m) s (carve_held (level m) k m))
occupy_held p k at n (free m ∷ s) w (inr x) =
    let f : eqb at p ≡ false = ne_eqb at p (λ e. omega (arith, w.0, (free_within s (at + m) p n x).0)) in
    rw f (occupy_held p k (at + m) n s w.1 x)

-- THE MAP STAYS ONE GOT BY HALVING
pub occupy_halved : (p k n : ℕ) {j : ℕ} {s : List Segment} (at : ℕ) → Halved j s → FreeAt s at p n → Halved j (occupy_block p k at s)
unfolding FreeAt occupy_block
occupy_halved p k n at (one j (held m) e) x = absurd x
occupy_halved p k n at (one j (free m) e) (inr x) = absurd x
occupy_halved p k n at (one j (free m) e) (inl x) =
    let l : level (2 ^ j) ≡ j = level_power j in
    let q : size_of (free m) ≡ m = refl in
    let f : m ≡ 2 ^ j = e in
    rw (eq-eqb at p x.0, f, l, append-nil (carve j k (2 ^ j))) (carve_halved j k)
occupy_halved p k n at (two j a b x y f) z = go (free_part a b at p n z) (λ u. occupy_halved p k n at x u) (λ u. occupy_halved p k n (at + total a) y u)
  where
    go : FreeAt a at p n ⊎ FreeAt b (at + total a) p n → (FreeAt a at p n → Halved j (occupy_block p k at a))
        → (FreeAt b (at + total a) p n → Halved j (occupy_block p k (at + total a) b)) → Halved (suc j) (occupy_block p k at (a ++ b))
    go (inl u) low high =
        rw (occupy_left p k at n a b (halved_sized x) u)
        (two j _ _ (low u) y (rw (held_not _ (occupy_held p k at n a (halved_sized x) u))))
    go (inr u) low high =
        rw (occupy_right p k at a b (halved_sized x) (free_within b (at + total a) p n u).0)
        (two j _ _ x (high u) (rw (held_not _ (occupy_held p k (at + total a) n b (halved_sized y) u)) (and-false (is_free a))))

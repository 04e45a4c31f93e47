-- Where a get by halves is placed: at the lowest of the smallest free blocks that have the pages; nowhere exactly where no free block has
-- them. Of any list of segments. Assumes nothing.
use Rattle.std.specs.Prelude.{None, Some}
use Prim.Native.Nat.{ℕ, ◌+◌, ◌≤◌, ◌<◌}
use mathlib.Core.Path.{◌≡◌, refl}
use mathlib.Core.Logic.{◌⊎◌, inl, inr, ⊎_elim}
use mathlib.Core.Bool.{Bool, true, false, cond}
use mathlib.Core.List.{List, [], ◌∷◌, ◌++◌}
use native.Mathlib.Omega.{arith}
use lib.Dec.{eqb, leb}
use borrow.Author.Tests.{leb-true, leb-false, le-leb, eqb-true, eqb-false}
use Rattle.manager.specs.Map.{Segment, free, held, total}
use Rattle.manager.specs.Halves.{FreeAt, lesser, smallest, lowest_free, place_block}

-- ---- free blocks

-- one lies within the map
pub free_within : (s : List Segment) (at p n : ℕ) → FreeAt s at p n → (at ≤ p) × (p + n ≤ at + total s)
unfolding FreeAt total
free_within [] at p n x = absurd x
free_within (held m ∷ s) at p n x = let h = free_within s (at + m) p n x in (omega (arith, h.0), omega (arith, h.1))
free_within (free m ∷ s) at p n (inl x) = (omega (arith, x.0), omega (arith, x.0, x.1))
free_within (free m ∷ s) at p n (inr x) = let h = free_within s (at + m) p n x in (omega (arith, h.0), omega (arith, h.1))

-- and in one of two parts of it
pub free_part : (a b : List Segment) (at p n : ℕ) → FreeAt (a ++ b) at p n → FreeAt a at p n ⊎ FreeAt b (at + total a) p n
unfolding FreeAt total
free_part [] b at p n x = let e : at + 0 ≡ at = omega arith in inr (rw e x)
free_part (held m ∷ a) b at p n x =
    let e : at + m + total a ≡ at + (m + total a) = omega arith in
    rw e at (free_part a b (at + m) p n x)
free_part (free m ∷ a) b at p n (inl x) = inl (inl x)
free_part (free m ∷ a) b at p n (inr x) =
    let e : at + m + total a ≡ at + (m + total a) = omega arith in
    ⊎_elim (λ (y : FreeAt a (at + m) p n). inl (inr y)) (λ (y : FreeAt b (at + (m + total a)) p n). inr y) (rw e at (free_part a b (at + m) p n x))

pub free_left : (a b : List Segment) (at p n : ℕ) → FreeAt a at p n → FreeAt (a ++ b) at p n
unfolding FreeAt
free_left [] b at p n x = absurd x
free_left (held m ∷ a) b at p n x = free_left a b (at + m) p n x
free_left (free m ∷ a) b at p n (inl x) = inl x
free_left (free m ∷ a) b at p n (inr x) = inr (free_left a b (at + m) p n x)

pub free_right : (a b : List Segment) (at p n : ℕ) → FreeAt b (at + total a) p n → FreeAt (a ++ b) at p n
unfolding FreeAt total
free_right [] b at p n x = let e : at + 0 ≡ at = omega arith in rw e at x
free_right (held m ∷ a) b at p n x =
    let e : at + m + total a ≡ at + (m + total a) = omega arith in
    free_right a b (at + m) p n (rw e x)
free_right (free m ∷ a) b at p n x =
    let e : at + m + total a ≡ at + (m + total a) = omega arith in
    inr (free_right a b (at + m) p n (rw e x))

-- ---- the smallest that has k pages

-- what `lesser` comes to, where the first is not 0
data Less (n m : ℕ) : ℕ → Type 0 where
  first : (m ≡ 0) ⊎ (n ≤ m) → Less n m n
  second : 1 ≤ m → m < n → Less n m m

less : (n m : ℕ) → Less n m (lesser n m)
less n m = go (eqb m 0) refl (leb n m) refl
  where
    go : (b : Bool) → eqb m 0 ≡ b → (c : Bool) → leb n m ≡ c → Less n m (cond b n (cond c n m))
    go true e c f = first (inl (eqb-true m 0 e))
    go false e true f = first (inr (leb-true n m f))
    go false e false f = let z = eqb-false m 0 e in second (omega arith) (leb-false n m f)

-- there is one, of that many pages
pub smallest_there : (k : ℕ) (s : List Segment) (at : ℕ) → 1 ≤ k → 1 ≤ smallest k s → (p : ℕ) × FreeAt s at p (smallest k s) × (k ≤ smallest k s)
unfolding smallest FreeAt
smallest_there k [] at o h = absurd (omega arith)
smallest_there k (held n ∷ s) at o h = smallest_there k s (at + n) o h
smallest_there k (free n ∷ s) at o h = go (leb k n) refl h (λ h'. smallest_there k s (at + n) o h')
  where
    pick : (b : ℕ) → Less n (smallest k s) b → k ≤ n → (1 ≤ smallest k s → (p : ℕ) × FreeAt s (at + n) p (smallest k s) × (k ≤ smallest k s))
        → (p : ℕ) × (((at ≡ p) × (n ≡ b)) ⊎ FreeAt s (at + n) p b) × (k ≤ b)
    pick b (first x) l ih = (at, inl (refl, refl), l)
    pick b (second x y) l ih = let h = ih x in (h.0, inr h.1, h.2)

    go : (b : Bool) → leb k n ≡ b → 1 ≤ cond b (lesser n (smallest k s)) (smallest k s)
        → (1 ≤ smallest k s → (p : ℕ) × FreeAt s (at + n) p (smallest k s) × (k ≤ smallest k s))
        → (p : ℕ) × (((at ≡ p) × (n ≡ cond b (lesser n (smallest k s)) (smallest k s))) ⊎ FreeAt s (at + n) p (cond b (lesser n (smallest k s)) (smallest k s)))
        × (k ≤ cond b (lesser n (smallest k s)) (smallest k s))
    go true e h' ih = pick (lesser n (smallest k s)) (less n (smallest k s)) (leb-true k n e) ih
    go false e h' ih = let x = ih h' in (x.0, inr x.1, x.2)

-- and none that has k pages is smaller
pub smallest_least : (k : ℕ) (s : List Segment) (at q m : ℕ) → 1 ≤ k → FreeAt s at q m → k ≤ m → (1 ≤ smallest k s) × (smallest k s ≤ m)
unfolding smallest FreeAt
smallest_least k [] at q m o x l = absurd x
smallest_least k (held n ∷ s) at q m o x l = smallest_least k s (at + n) q m o x l
smallest_least k (free n ∷ s) at q m o (inl x) l =
    let e : leb k n ≡ true = le-leb k n (omega (arith, x.1)) in
    rw e (go (lesser n (smallest k s)) (less n (smallest k s)))
  where
    go : (b : ℕ) → Less n (smallest k s) b → (1 ≤ b) × (b ≤ m)
    go b (first y) = (omega (arith, x.1), omega (arith, x.1))
    go b (second y z) = (y, omega (arith, x.1))
smallest_least k (free n ∷ s) at q m o (inr x) l = go (leb k n) refl (smallest_least k s (at + n) q m o x l)
  where
    pick : (b : ℕ) → Less n (smallest k s) b → k ≤ n → (1 ≤ smallest k s) × (smallest k s ≤ m) → (1 ≤ b) × (b ≤ m)
    pick b (first (inl y)) f h = absurd (omega (arith, h.0))
    pick b (first (inr y)) f h = (omega arith, omega (arith, h.1))
    pick b (second y z) f h = h

    go : (b : Bool) → leb k n ≡ b → (1 ≤ smallest k s) × (smallest k s ≤ m)
        → (1 ≤ cond b (lesser n (smallest k s)) (smallest k s)) × (cond b (lesser n (smallest k s)) (smallest k s) ≤ m)
    go true e h = pick (lesser n (smallest k s)) (less n (smallest k s)) (leb-true k n e) h
    go false e h = h

-- ---- the lowest of a size

pub lowest_there : (b at : ℕ) (s : List Segment) (p : ℕ) → lowest_free b at s ≡ Some p → FreeAt s at p b × ((q : ℕ) → FreeAt s at q b → p ≤ q)
unfolding lowest_free FreeAt
lowest_there b at [] p e = absurd (let z : ◌≡◌ {A = ℕ} 0 1 = cc in omega arith)
lowest_there b at (held n ∷ s) p e = lowest_there b (at + n) s p e
lowest_there b at (free n ∷ s) p e = go (eqb n b) refl e (λ e'. lowest_there b (at + n) s p e')
  where
    go : (t : Bool) → eqb n b ≡ t → cond t (Some at) (lowest_free b (at + n) s) ≡ Some p
        → (lowest_free b (at + n) s ≡ Some p → FreeAt s (at + n) p b × ((q : ℕ) → FreeAt s (at + n) q b → p ≤ q))
        → (((at ≡ p) × (n ≡ b)) ⊎ FreeAt s (at + n) p b) × ((q : ℕ) → ((at ≡ q) × (n ≡ b)) ⊎ FreeAt s (at + n) q b → p ≤ q)
    go true f h ih =
        let z : at ≡ p = cc in
        (inl (z, eqb-true n b f), λ q x. elim x [ inl y ↦ omega (arith, y.0) | inr y ↦ omega (arith, (free_within s (at + n) q b y).0) ])
    go false f h ih =
        let x = ih h in
        (inr x.0, λ q y. elim y [ inl z ↦ absurd (eqb-false n b f z.1) | inr z ↦ x.1 q z ])

pub lowest_none : (b at : ℕ) (s : List Segment) (q : ℕ) → lowest_free b at s ≡ None → FreeAt s at q b → ⊥
unfolding lowest_free FreeAt
lowest_none b at [] q e x = x
lowest_none b at (held n ∷ s) q e x = lowest_none b (at + n) s q e x
lowest_none b at (free n ∷ s) q e x = go (eqb n b) refl e x (λ e' y. lowest_none b (at + n) s q e' y)
  where
    go : (t : Bool) → eqb n b ≡ t → cond t (Some at) (lowest_free b (at + n) s) ≡ None → ((at ≡ q) × (n ≡ b)) ⊎ FreeAt s (at + n) q b
        → (lowest_free b (at + n) s ≡ None → FreeAt s (at + n) q b → ⊥) → ⊥
    go true f h y ih = let z : ◌≡◌ {A = ℕ} 0 1 = cc in omega arith
    go false f h (inl y) ih = eqb-false n b f y.1
    go false f h (inr y) ih = ih h y

-- ---- THE PLACE OF A GET

pub record Best (k at p : ℕ) (s : List Segment) : Type 0 where
  pub pages : ℕ
  pub free : FreeAt s at p pages
  pub enough : k ≤ pages
  pub smallest : (q m : ℕ) → FreeAt s at q m → k ≤ m → pages ≤ m
  pub lowest : (q : ℕ) → FreeAt s at q pages → p ≤ q

module _ (k at : ℕ) (s : List Segment) (o : 1 ≤ k) where
  pub place_best : (p : ℕ) → place_block k at s ≡ Some p → Best k at p s
  unfolding place_block
  place_best p e = go (eqb (smallest k s) 0) refl e
    where
      go : (b : Bool) → eqb (smallest k s) 0 ≡ b → cond b None (lowest_free (smallest k s) at s) ≡ Some p → Best k at p s
      go true f h = absurd (let z : ◌≡◌ {A = ℕ} 0 1 = cc in omega arith)
      go false f h =
          let n = eqb-false (smallest k s) 0 f in
          let x = lowest_there (smallest k s) at s p h in
          let y = smallest_there k s at o (omega arith) in
          record {
            pages = smallest k s;
            free = x.0;
            enough = y.2;
            smallest = λ q m z l. (smallest_least k s at q m o z l).1;
            lowest = x.1;
          }

  pub place_none : place_block k at s ≡ None → (q m : ℕ) → FreeAt s at q m → m < k
  unfolding place_block
  place_none e q m x = by_order (leb k m) refl
    where
      go : (b : Bool) → eqb (smallest k s) 0 ≡ b → cond b None (lowest_free (smallest k s) at s) ≡ None → k ≤ m → ⊥
      go true f h l = let y = smallest_least k s at q m o x l in omega (arith, eqb-true (smallest k s) 0 f, y.0)
      go false f h l =
          let y = smallest_least k s at q m o x l in
          let z = smallest_there k s at o y.0 in
          lowest_none (smallest k s) at s z.0 h z.1

      by_order : (b : Bool) → leb k m ≡ b → m < k
      by_order true f = absurd (go (eqb (smallest k s) 0) refl e (leb-true k m f))
      by_order false f = leb-false k m f

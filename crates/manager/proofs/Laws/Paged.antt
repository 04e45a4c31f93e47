-- Placing, taking and changing segments keep a map well formed and its pages in number, and what each does is one place of the list:
-- the map before it, the segment, and the map behind it. Assumes nothing.
use Rattle.std.specs.Prelude.{Option, None, Some}
use Prim.Native.Nat.{ℕ, zero, suc, ◌+◌, ◌-◌, ◌≤◌, ◌<◌}
use mathlib.Core.Path.{◌≡◌, refl, sym, ap, ◌∙◌}
use mathlib.Core.Bool.{Bool, true, false, cond, ◌&&◌, and-false}
use mathlib.Core.List.{List, [], ◌∷◌, ◌++◌}
use native.Mathlib.Nat.{add-zero}
use native.Mathlib.Omega.{arith}
use lib.Dec.{eqb, leb}
use borrow.Author.Tests.{leb-true, le-leb, lt-leb, eqb-true, eq-eqb, ne_eqb}
use Rattle.manager.specs.Map.{Segment, free, held, is_held_segment, total}
use Rattle.manager.specs.Map.{size_of}
use Rattle.arith.specs.Round.{align_up}
use Rattle.arith.proofs.Laws.Round.{align_ge}
use Rattle.arith.proofs.Laws.Layout.{both_true}
use Rattle.manager.proofs.Laws.Map.{Sized, total_cons}
use Rattle.manager.proofs.Laws.Apart.{Well, well_after}
use Rattle.manager.specs.Kind.{on_place, allocate, held_from}
use Rattle.manager.specs.Paged.{free+, held+, lead, rest, room_from, place_from, occupy_from, paged, reach_from, change_from}
use Rattle.manager.specs.declared.Need.{Need}

-- ---- free pages in front of a map

pub free_none : (s : List Segment) → free+ 0 s ≡ s
unfolding free+
free_none s = refl

-- one after the other, or at once
pub free_join : (a b : ℕ) (s : List Segment) → free+ a (free+ b s) ≡ free+ (a + b) s
unfolding free+
free_join zero b s = let e : zero + b ≡ b = omega arith in rw e
free_join (suc a) zero s = let e : suc a + zero ≡ suc a = omega arith in rw e
free_join (suc a) (suc b) [] = let e : suc a + suc b ≡ suc (a + suc b) = omega arith in rw e
free_join (suc a) (suc b) (free n ∷ s) =
    let e : suc a + suc b ≡ suc (a + suc b) = omega arith in
    let f : suc a + (suc b + n) ≡ suc (a + suc b) + n = omega arith in
    rw (e, f)
free_join (suc a) (suc b) (held n ∷ s) = let e : suc a + suc b ≡ suc (a + suc b) = omega arith in rw e

pub total_free : (m : ℕ) (s : List Segment) → total (free+ m s) ≡ m + total s
unfolding free+ total
total_free zero s = omega arith
total_free (suc m) [] = refl
total_free (suc m) (free n ∷ s) = omega arith
total_free (suc m) (held n ∷ s) = refl

pub well_free : (m : ℕ) (s : List Segment) → Well true s → Well true (free+ m s)
unfolding free+
well_free zero s w = w
well_free (suc m) [] w = (omega arith, refl, tt)
well_free (suc m) (free n ∷ s) w = (omega arith, refl, w.2)
well_free (suc m) (held n ∷ s) w = (omega arith, refl, w)

-- in front of a map that does not start with a free segment
pub free_front : (m : ℕ) (s : List Segment) → Well false s → 1 ≤ m → free+ m s ≡ free m ∷ s
unfolding free+
free_front zero s w o = absurd (omega arith)
free_front (suc m) [] w o = refl
free_front (suc m) (free n ∷ s) w o = absurd (let z : ◌≡◌ {A = ℕ} 0 1 = cc in omega arith)
free_front (suc m) (held n ∷ s) w o = refl

-- ---- the free segment that a map starts with

pub total_lead : (s : List Segment) → total s ≡ lead s + total (rest s)
unfolding lead rest total
total_lead [] = refl
total_lead (free n ∷ s) = refl
total_lead (held n ∷ s) = omega arith

pub well_rest : (s : List Segment) → Well true s → Well false (rest s)
unfolding rest
well_rest [] w = tt
well_rest (free n ∷ s) w = w.2
well_rest (held n ∷ s) w = w

pub lead_none : (s : List Segment) → Well false s → lead s ≡ 0
unfolding lead
lead_none [] w = refl
lead_none (free n ∷ s) w = absurd (let z : ◌≡◌ {A = ℕ} 0 1 = cc in omega arith)
lead_none (held n ∷ s) w = refl

pub rest_none : (s : List Segment) → Well false s → rest s ≡ s
unfolding rest
rest_none [] w = refl
rest_none (free n ∷ s) w = absurd (let z : ◌≡◌ {A = ℕ} 0 1 = cc in omega arith)
rest_none (held n ∷ s) w = refl

-- ---- get

-- pages that are held from a page on leave a map well formed, and its pages in number
pub well_occupy : (p k at : ℕ) (before : Bool) (s : List Segment) → 1 ≤ k → Well before s → Well before (occupy_from p k at s)
unfolding occupy_from
well_occupy p k at before [] o w = tt
well_occupy p k at before (held n ∷ s) o w = (w.0, w.1, well_occupy p k (at + n) true s o w.2)
well_occupy p k at false (free n ∷ s) o w = absurd (let z : ◌≡◌ {A = ℕ} 0 1 = cc in omega arith)
well_occupy p k at true (free n ∷ s) o w = go (leb at p && leb (p + k) (at + n)) (well_occupy p k (at + n) false s o w.2)
  where
    go : (b : Bool) → Well false (occupy_from p k (at + n) s)
        → Well true (cond b (free+ (p - at) (held k ∷ free+ (at + n - (p + k)) s)) (free n ∷ occupy_from p k (at + n) s))
    go true ih =
        well_free (p - at) (held k ∷ free+ (at + n - (p + k)) s)
        (o, refl, well_free (at + n - (p + k)) s (well_after false s w.2))
    go false ih = (w.0, w.1, ih)

pub total_occupy : (p k at : ℕ) (s : List Segment) → total (occupy_from p k at s) ≡ total s
unfolding occupy_from total
total_occupy p k at [] = refl
total_occupy p k at (held n ∷ s) = omega (arith, total_occupy p k (at + n) s)
total_occupy p k at (free n ∷ s) = go (leb at p && leb (p + k) (at + n)) refl (total_occupy p k (at + n) s)
  where
    go : (b : Bool) → (leb at p && leb (p + k) (at + n)) ≡ b → total (occupy_from p k (at + n) s) ≡ total s
        → total (cond b (free+ (p - at) (held k ∷ free+ (at + n - (p + k)) s)) (free n ∷ occupy_from p k (at + n) s)) ≡ n + total s
    go true e ih =
        let h = both_true (leb at p) (leb (p + k) (at + n)) e in
        omega (
          arith,
          total_free (p - at) (held k ∷ free+ (at + n - (p + k)) s),
          total_free (at + n - (p + k)) s,
          leb-true at p h.0,
          leb-true (p + k) (at + n) h.1,
        )
    go false e ih = omega arith

-- OF ALIGNMENT 0 A GET TAKES THE LOW END OF THE LOWEST SEGMENT THAT HAS THE PAGES, by computing
pub anywhere : (k at n : ℕ) (s : List Segment)
    → let w : Need = record { pages = k; every = 0 } in place_from w at (free n ∷ s) ≡ cond (leb k n) (Some at) (place_from w (at + n) s)
unfolding place_from
anywhere k at n s = refl

-- k pages from the first page on the alignment on lie in n pages from page `at` on exactly where so many are left
pub room_in : (every at n k : ℕ) → 1 ≤ k → k ≤ room_from every at n → align_up every at + k ≤ at + n
room_in zero at n k o h = omega arith
room_in (suc every) at n k o h = omega arith

pub room_out : (every at n k : ℕ) → room_from every at n < k → at + n < align_up every at + k
room_out zero at n k h = omega arith
room_out (suc every) at n k h = omega arith

-- its map in one walk: the first free segment with room serves from the first page on the alignment on
unfoldable pub first_fit : Need → ℕ → List Segment → List Segment
first_fit w at [] = []
first_fit w at (held n ∷ s) = held n ∷ first_fit w (at + n) s
first_fit w at (free n ∷ s) =
    cond (leb w.pages (room_from w.every at n))
    (free+ (align_up w.every at - at) (held w.pages ∷ free+ (at + n - (align_up w.every at + w.pages)) s))
    (free n ∷ first_fit w (at + n) s)

-- where nothing is placed, nothing is taken
fit_none : (w : Need) (at : ℕ) (s : List Segment) → place_from w at s ≡ None → first_fit w at s ≡ s
unfolding place_from first_fit
fit_none w at [] e = refl
fit_none w at (held n ∷ s) e = ap (λ (t : List Segment). held n ∷ t) (fit_none w (at + n) s e)
fit_none w at (free n ∷ s) e = go (leb w.pages (room_from w.every at n)) refl (λ e'. fit_none w (at + n) s e')
  where
    go : (b : Bool) → leb w.pages (room_from w.every at n) ≡ b → (place_from w (at + n) s ≡ None → first_fit w (at + n) s ≡ s)
        → first_fit w at (free n ∷ s) ≡ free n ∷ s
    go true f ih =
        let a : Some (align_up w.every at) ≡ None = rw f at e in
        absurd (let z : ◌≡◌ {A = ℕ} 0 1 = cc in omega arith)
    go false f ih = rw f (ap (λ (t : List Segment). free n ∷ t) (ih (rw f at e)))

-- where pages are placed at page p, no free segment before it has them there, so those from p on are the ones that are held
within : (p k at n : ℕ) → at ≤ p → p + k ≤ at + n → (leb at p && leb (p + k) (at + n)) ≡ true
within p k at n h l = rw (le-leb at p h, le-leb (p + k) (at + n) l)

beyond : (p k at n : ℕ) → at + n < p + k → (leb at p && leb (p + k) (at + n)) ≡ false
beyond p k at n l = rw (lt-leb (p + k) (at + n) l) (and-false (leb at p))

fit_at : (w : Need) (at : ℕ) (s : List Segment) (p : ℕ) → 1 ≤ w.pages → place_from w at s ≡ Some p
    → (at ≤ p) × (occupy_from p w.pages at s ≡ first_fit w at s)
unfolding place_from first_fit occupy_from free+
fit_at w at [] p o e = absurd (let z : ◌≡◌ {A = ℕ} 0 1 = cc in omega arith)
fit_at w at (held n ∷ s) p o e =
    let h = fit_at w (at + n) s p o e in
    (omega (arith, h.0), ap (λ (t : List Segment). held n ∷ t) h.1)
fit_at w at (free n ∷ s) p o e = go (leb w.pages (room_from w.every at n)) refl (λ e'. fit_at w (at + n) s p o e')
  where
    go : (b : Bool) → leb w.pages (room_from w.every at n) ≡ b
        → (place_from w (at + n) s ≡ Some p → (at + n ≤ p) × (occupy_from p w.pages (at + n) s ≡ first_fit w (at + n) s))
        → (at ≤ p) × (occupy_from p w.pages at (free n ∷ s) ≡ first_fit w at (free n ∷ s))
    go true f ih =
        let a : Some (align_up w.every at) ≡ Some p = rw f at e in
        let q : align_up w.every at ≡ p = cc in
        let l = room_in w.every at n w.pages o (leb-true w.pages (room_from w.every at n) f) in
        let h : at ≤ p = omega (arith, align_ge w.every at) in
        (h, rw (within p w.pages at n h (omega arith), f, q))
    go false f ih =
        let h = ih (rw f at e) in
        (omega (arith, h.0), rw (beyond p w.pages at n (omega (arith, h.0)), f) (ap (λ (t : List Segment). free n ∷ t) h.1))

-- A GET IS FIRST FIT
pub fit_is : (w : Need) (at : ℕ) (s : List Segment) → 1 ≤ w.pages → allocate paged w at s ≡ first_fit w at s
fit_is w at s o = go (place_from w at s) refl
  where
    go : (q : Option ℕ) → place_from w at s ≡ q → on_place q (λ p. occupy_from p w.pages at s) s ≡ first_fit w at s
    go (Some p) e = (fit_at w at s p o e).1
    go None e = sym (fit_none w at s e)

-- it keeps a map well formed and its pages in number
pub well_take : (w : Need) (at : ℕ) (s : List Segment) → 1 ≤ w.pages → Well true s → Well true (allocate paged w at s)
well_take w at s o h = go (place_from w at s)
  where
    go : (q : Option ℕ) → Well true (on_place q (λ p. occupy_from p w.pages at s) s)
    go (Some p) = well_occupy p w.pages at true s o h
    go None = h

pub total_take : (w : Need) (at : ℕ) (s : List Segment) → total (allocate paged w at s) ≡ total s
total_take w at s = go (place_from w at s)
  where
    go : (q : Option ℕ) → total (on_place q (λ p. occupy_from p w.pages at s) s) ≡ total s
    go (Some p) = total_occupy p w.pages at s
    go None = refl

pub take_none : (w : Need) (at : ℕ) (s : List Segment) → place_from w at s ≡ None → allocate paged w at s ≡ s
take_none w at s e = rw e

-- a get has its pages in the map
pub place_within : (w : Need) (at : ℕ) (s : List Segment) (p : ℕ) → 1 ≤ w.pages → place_from w at s ≡ Some p
    → (at ≤ p) × (p + w.pages ≤ at + total s)
unfolding place_from total
place_within w at [] p o e = absurd (let z : ◌≡◌ {A = ℕ} 0 1 = cc in omega arith)
place_within w at (held n ∷ s) p o e = let h = place_within w (at + n) s p o e in (omega (arith, h.0), omega (arith, h.1))
place_within w at (free n ∷ s) p o e = go (leb w.pages (room_from w.every at n)) refl (λ e'. place_within w (at + n) s p o e')
  where
    go : (b : Bool) → leb w.pages (room_from w.every at n) ≡ b
        → (place_from w (at + n) s ≡ Some p → (at + n ≤ p) × (p + w.pages ≤ at + n + total s)) → (at ≤ p) × (p + w.pages ≤ at + (n + total s))
    go true f ih =
        let a : Some (align_up w.every at) ≡ Some p = rw f at e in
        let q : align_up w.every at ≡ p = cc in
        let l = room_in w.every at n w.pages o (leb-true w.pages (room_from w.every at n) f) in
        (omega (arith, align_ge w.every at), omega arith)
    go false f ih = let h = ih (rw f at e) in (omega (arith, h.0), omega (arith, h.1))

-- ---- return and resize

pub well_change : (p k at : ℕ) (s : List Segment) → Well true s → Well true (change_from p k at s)
unfolding change_from
well_change p k at [] w = tt
well_change p k at (free n ∷ s) w = well_free n (change_from p k (at + n) s) (well_change p k (at + n) s (well_after false s w.2))
well_change p k at (held n ∷ s) w = go (eqb at p) (well_change p k (at + n) s w.2)
  where
    new : (k : ℕ) → Well true (held+ k (free+ (n + lead s - k) (rest s)))
    new zero = well_free (n + lead s - zero) (rest s) (well_after false (rest s) (well_rest s w.2))
    new (suc k) = (omega arith, refl, well_free (n + lead s - suc k) (rest s) (well_after false (rest s) (well_rest s w.2)))

    go : (b : Bool) → Well true (change_from p k (at + n) s)
        → Well true (cond b (held+ k (free+ (n + lead s - k) (rest s))) (held n ∷ change_from p k (at + n) s))
    go true ih = new k
    go false ih = (w.0, refl, ih)

total_held : (k : ℕ) (s : List Segment) → total (held+ k s) ≡ k + total s
unfolding total
total_held zero s = omega arith
total_held (suc k) s = refl

pub total_change : (p k at : ℕ) (s : List Segment) → k ≤ reach_from p at s → total (change_from p k at s) ≡ total s
unfolding change_from reach_from total
total_change p k at [] l = refl
total_change p k at (free n ∷ s) l = omega (arith, total_free n (change_from p k (at + n) s), total_change p k (at + n) s l)
total_change p k at (held n ∷ s) l = go (eqb at p) l (λ l'. total_change p k (at + n) s l')
  where
    go : (b : Bool) → k ≤ cond b (n + lead s) (reach_from p (at + n) s) → (k ≤ reach_from p (at + n) s → total (change_from p k (at + n) s) ≡ total s)
        → total (cond b (held+ k (free+ (n + lead s - k) (rest s))) (held n ∷ change_from p k (at + n) s)) ≡ n + total s
    go true l' ih = omega (arith, total_held k (free+ (n + lead s - k) (rest s)), total_free (n + lead s - k) (rest s), total_lead s)
    go false l' ih = omega (arith, ih l')

-- a map in front of another: a free segment at the seam is joined
unfoldable pub onto : List Segment → List Segment → List Segment
onto [] t = t
onto (free n ∷ s) t = free+ n (onto s t)
onto (held n ∷ s) t = held n ∷ onto s t

pub onto_append : (a b t : List Segment) → onto (a ++ b) t ≡ onto a (onto b t)
unfolding onto
onto_append [] b t = refl
onto_append (free n ∷ a) b t = ap (free+ n) (onto_append a b t)
onto_append (held n ∷ a) b t = ap (λ (u : List Segment). held n ∷ u) (onto_append a b t)

-- a map that does not start with a free segment
abbrev pub Apart : List Segment → Type 0
Apart [] = Unit {0}
Apart (free n ∷ s) = ⊥
Apart (held n ∷ s) = Unit {0}

free_apart : (m : ℕ) (s : List Segment) → Apart s → 1 ≤ m → free+ m s ≡ free m ∷ s
unfolding free+
free_apart zero s a o = absurd (omega arith)
free_apart (suc m) [] a o = refl
free_apart (suc m) (free n ∷ s) a o = absurd a
free_apart (suc m) (held n ∷ s) a o = refl

-- what stood before a segment stays as it was, whatever comes behind one of the same mark
apart_last : (s : List Segment) (g h : Segment) (t post : List Segment) → is_held_segment h ≡ is_held_segment g → Well false (s ++ (h ∷ post))
    → Apart (s ++ onto (g ∷ []) t)
unfolding onto
apart_last [] (held n) h t post e w = tt
apart_last [] (free n) h t post e w = absurd (let z : ◌≡◌ {A = Bool} true false = cc in let y : ◌≡◌ {A = ℕ} 0 1 = cc in omega arith)
apart_last (held n ∷ s) g h t post e w = tt
apart_last (free n ∷ s) g h t post e w = absurd (let z : ◌≡◌ {A = ℕ} 0 1 = cc in omega arith)

pub onto_last : (before : Bool) (s : List Segment) (g h : Segment) (t post : List Segment) → is_held_segment h ≡ is_held_segment g
    → Well before (s ++ (h ∷ post)) → onto s (onto (g ∷ []) t) ≡ s ++ onto (g ∷ []) t
unfolding onto
onto_last before [] g h t post e w = refl
onto_last before (held n ∷ s) g h t post e w = ap (λ (u : List Segment). held n ∷ u) (onto_last true s g h t post e w.2)
onto_last before (free n ∷ s) g h t post e w =
    ap (free+ n) (onto_last false s g h t post e w.2) ∙ free_apart n (s ++ onto (g ∷ []) t) (apart_last s g h t post e w.2) w.0

-- the held segment at page p: the map before, its pages, and the map behind
pub record Spot (p at : ℕ) (s : List Segment) : Type 0 where
  pub pre : List Segment
  pub pages : ℕ
  pub post : List Segment
  pub is : s ≡ pre ++ (held pages ∷ post)
  pub page : at + total pre ≡ p

spot_past : {p at : ℕ} {s : List Segment} (g : Segment) → Spot p (at + size_of g) s → Spot p at (g ∷ s)
spot_past {p} {at} {s} g h =
    record {
      pre = g ∷ h.pre;
      pages = h.pages;
      post = h.post;
      is = ap (λ (t : List Segment). g ∷ t) h.is;
      page = omega (arith, h.page, total_cons g h.pre);
    }

pub spot : (p at : ℕ) (s : List Segment) → 1 ≤ held_from p at s → Spot p at s
unfolding held_from total
spot p at [] l = absurd (omega arith)
spot p at (free n ∷ s) l = spot_past (free n) (spot p (at + n) s l)
spot p at (held n ∷ s) l = go (eqb at p) refl l (λ l'. spot p (at + n) s l')
  where
    go : (b : Bool) → eqb at p ≡ b → 1 ≤ cond b n (held_from p (at + n) s) → (1 ≤ held_from p (at + n) s → Spot p (at + n) s) → Spot p at (held n ∷ s)
    go true e l' ih = record { pre = []; pages = n; post = s; is = refl; page = add-zero at ∙ eqb-true at p e }
    go false e l' ih = spot_past (held n) (ih l')

-- what is found there: the segment's pages, the most that it can have, and the map with k pages for it
module _ (p k : ℕ) where
  later : (at : ℕ) (g : Segment) (s : List Segment) → 1 ≤ size_of g → at + total (g ∷ s) ≡ p → eqb at p ≡ false
  later at g s o e = ne_eqb at p (λ q. omega (arith, total_cons g s))

  pub held_at_lem : (at : ℕ) (pre : List Segment) (n : ℕ) (post : List Segment) → Sized (pre ++ (held n ∷ post)) → at + total pre ≡ p
      → held_from p at (pre ++ (held n ∷ post)) ≡ n
  unfolding held_from total
  held_at_lem at [] n post w e = rw (eq-eqb at p (omega arith))
  held_at_lem at (free m ∷ pre) n post w e = held_at_lem (at + m) pre n post w.1 (omega arith)
  held_at_lem at (held m ∷ pre) n post w e = rw (later at (held m) pre w.0 e) (held_at_lem (at + m) pre n post w.1 (omega arith))

  pub reach_at : (at : ℕ) (pre : List Segment) (n : ℕ) (post : List Segment) → Sized (pre ++ (held n ∷ post)) → at + total pre ≡ p
      → reach_from p at (pre ++ (held n ∷ post)) ≡ n + lead post
  unfolding reach_from total
  reach_at at [] n post w e = rw (eq-eqb at p (omega arith))
  reach_at at (free m ∷ pre) n post w e = reach_at (at + m) pre n post w.1 (omega arith)
  reach_at at (held m ∷ pre) n post w e = rw (later at (held m) pre w.0 e) (reach_at (at + m) pre n post w.1 (omega arith))

  pub change_at : (at : ℕ) (pre : List Segment) (n : ℕ) (post : List Segment) → Sized (pre ++ (held n ∷ post)) → at + total pre ≡ p
      → change_from p k at (pre ++ (held n ∷ post)) ≡ onto pre (held+ k (free+ (n + lead post - k) (rest post)))
  unfolding change_from total onto
  change_at at [] n post w e = rw (eq-eqb at p (omega arith))
  change_at at (free m ∷ pre) n post w e = ap (free+ m) (change_at (at + m) pre n post w.1 (omega arith))
  change_at at (held m ∷ pre) n post w e =
      rw (later at (held m) pre w.0 e) (ap (λ (u : List Segment). held m ∷ u) (change_at (at + m) pre n post w.1 (omega arith)))

-- no held segment is larger than the map
pub held_within : (p at : ℕ) (s : List Segment) → held_from p at s ≤ total s
unfolding held_from total
held_within p at [] = omega arith
held_within p at (free n ∷ s) = omega (arith, held_within p (at + n) s)
held_within p at (held n ∷ s) = go (eqb at p) (held_within p (at + n) s)
  where
    go : (b : Bool) → held_from p (at + n) s ≤ total s → cond b n (held_from p (at + n) s) ≤ n + total s
    go true h = omega arith
    go false h = omega arith

-- and none can have more
lead_within : (s : List Segment) → lead s ≤ total s
unfolding lead total
lead_within [] = omega arith
lead_within (free n ∷ s) = omega arith
lead_within (held n ∷ s) = omega arith

pub reach_within : (p at : ℕ) (s : List Segment) → reach_from p at s ≤ total s
unfolding reach_from total
reach_within p at [] = omega arith
reach_within p at (free n ∷ s) = omega (arith, reach_within p (at + n) s)
reach_within p at (held n ∷ s) = go (eqb at p) (reach_within p (at + n) s)
  where
    go : (b : Bool) → reach_from p (at + n) s ≤ total s → cond b (n + lead s) (reach_from p (at + n) s) ≤ n + total s
    go true h = omega (arith, lead_within s)
    go false h = omega arith

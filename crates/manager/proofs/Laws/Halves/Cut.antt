-- Maps by halves as they are built: a block is one segment, or two such halves, not both wholly free (`Halved`). All that is said of such
-- maps goes by induction over this. Nothing held is then one free block (`none_held`). Assumes nothing.
use Prim.Native.Nat.{ℕ, zero, suc, ◌+◌, ◌-◌, ◌^◌}
use mathlib.Core.Path.{◌≡◌, refl, sym, ap, ◌∙◌}
use mathlib.Core.Bool.{Bool, true, false, cond, not, ◌&&◌, ◌||◌}
use mathlib.Core.List.{List, [], ◌∷◌, ◌++◌}
use native.Mathlib.Omega.{arith}
use lib.Dec.{eqb}
use borrow.Author.Tests.{eqb-true, eq-eqb, ne_eqb}
use Rattle.arith.specs.Power.{level}
use Rattle.arith.proofs.Laws.Power.{some_power, double, level_power}
use Rattle.manager.specs.Lists.{any}
use Rattle.manager.specs.Map.{Segment, free, held, is_held_segment, size_of, total}
use Rattle.manager.specs.Halves.{low_of, high_of, is_whole, is_free, halved, halves}
use Rattle.arith.proofs.Laws.Layout.{both_true}
use Rattle.manager.proofs.Laws.Map.{Sized, total_cons, total_append}

-- ---- a map in two parts

pub split : (n : ℕ) (s : List Segment) → low_of n s ++ high_of n s ≡ s
unfolding low_of high_of
split n [] = refl
split n (g ∷ s) = go (eqb n 0) (split (n - size_of g) s)
  where
    go : (b : Bool) → low_of (n - size_of g) s ++ high_of (n - size_of g) s ≡ s
        → cond b [] (g ∷ low_of (n - size_of g) s) ++ cond b (g ∷ s) (high_of (n - size_of g) s) ≡ g ∷ s
    go true h = refl
    go false h = ap (λ (t : List Segment). g ∷ t) h

pub low_of_lem : (n : ℕ) (a b : List Segment) → Sized a → total a ≡ n → low_of n (a ++ b) ≡ a
unfolding low_of total
low_of_lem n [] [] w e = refl
low_of_lem n [] (g ∷ b) w e = rw (eq-eqb n 0 (sym e))
low_of_lem n (g ∷ a) b w e =
    let f : eqb n 0 ≡ false = ne_eqb n 0 (λ z. omega (arith, w.0, total_cons g a)) in
    rw f (ap (λ (t : List Segment). g ∷ t) (low_of_lem (n - size_of g) a b w.1 (omega (arith, total_cons g a))))

pub high_of_lem : (n : ℕ) (a b : List Segment) → Sized a → total a ≡ n → high_of n (a ++ b) ≡ b
unfolding high_of total
high_of_lem n [] [] w e = refl
high_of_lem n [] (g ∷ b) w e = rw (eq-eqb n 0 (sym e))
high_of_lem n (g ∷ a) b w e =
    let f : eqb n 0 ≡ false = ne_eqb n 0 (λ z. omega (arith, w.0, total_cons g a)) in
    rw f (high_of_lem (n - size_of g) a b w.1 (omega (arith, total_cons g a)))

pub sized_append : (a b : List Segment) → Sized a → Sized b → Sized (a ++ b)
sized_append [] b w v = v
sized_append (g ∷ a) b w v = (w.0, sized_append a b w.1 v)

pub total_one : (g : Segment) → total (g ∷ []) ≡ size_of g
unfolding total
total_one g = omega (arith, total_cons g [])

-- ---- one segment, and one that is free

pub not_whole : (g h : Segment) (a b : List Segment) → is_whole ((g ∷ a) ++ (h ∷ b)) ≡ false
unfolding is_whole
not_whole g h [] b = refl
not_whole g h (f ∷ a) b = refl

pub free_none : (s : List Segment) → is_free s ≡ true → any is_held_segment s ≡ false
unfolding is_free any
free_none [] e = refl
free_none (held n ∷ s) e = absurd (let z : ◌≡◌ {A = ℕ} 0 1 = cc in omega arith)
free_none (free n ∷ []) e = refl
free_none (free n ∷ g ∷ s) e = absurd (let z : ◌≡◌ {A = ℕ} 0 1 = cc in omega arith)

pub free_is : (s : List Segment) → is_free s ≡ true → s ≡ free (total s) ∷ []
unfolding is_free total
free_is [] e = absurd (let z : ◌≡◌ {A = ℕ} 0 1 = cc in omega arith)
free_is (held n ∷ s) e = absurd (let z : ◌≡◌ {A = ℕ} 0 1 = cc in omega arith)
free_is (free n ∷ []) e = let x : n + 0 ≡ n = omega arith in rw x
free_is (free n ∷ g ∷ s) e = absurd (let z : ◌≡◌ {A = ℕ} 0 1 = cc in omega arith)

-- with something held it is not free
pub held_not : (s : List Segment) → any is_held_segment s ≡ true → is_free s ≡ false
held_not s e = go (is_free s) refl
  where
    go : (b : Bool) → is_free s ≡ b → b ≡ false
    go false f = refl
    go true f = absurd (let y = free_none s f in let z : ◌≡◌ {A = Bool} true false = cc in let x : ◌≡◌ {A = ℕ} 0 1 = cc in omega arith)

-- ---- HOW A BLOCK OF 2^j PAGES IS BUILT

pub data Halved : ℕ → List Segment → Type 0 where
  one : (j : ℕ) (g : Segment) → size_of g ≡ 2 ^ j → Halved j (g ∷ [])
  two : (j : ℕ) (a b : List Segment) → Halved j a → Halved j b → (is_free a && is_free b) ≡ false → Halved (suc j) (a ++ b)

pub halved_sized : {j : ℕ} {s : List Segment} → Halved j s → Sized s
halved_sized (one j g e) = (omega (arith, some_power j), tt)
halved_sized (two j a b x y f) = sized_append a b (halved_sized x) (halved_sized y)

pub halved_total : {j : ℕ} {s : List Segment} → Halved j s → total s ≡ 2 ^ j
halved_total (one j g e) = total_one g ∙ e
halved_total (two j a b x y f) = omega (arith, total_append a b, halved_total x, halved_total y, double j)

-- it has a segment
pub record Some (s : List Segment) : Type 0 where
  pub first : Segment
  pub rest : List Segment
  pub is : s ≡ first ∷ rest

pub halved_some : {j : ℕ} {s : List Segment} → Halved j s → Some s
halved_some (one j g e) = record { first = g; rest = []; is = refl }
halved_some (two j a b x y f) =
    let h = halved_some x in
    record { first = h.first; rest = h.rest ++ b; is = ap (λ (s : List Segment). s ++ b) h.is }

pub two_not_whole : {j : ℕ} {a b : List Segment} → Halved j a → Halved j b → is_whole (a ++ b) ≡ false
two_not_whole {j} {a} {b} x y =
    let h = halved_some x in
    let k = halved_some y in
    rw (h.is, k.is) (not_whole h.first k.first h.rest k.rest)

-- the test says it
and_not : (x y b : Bool) → x ≡ true → y ≡ true → b ≡ false → (x && (y && not b)) ≡ true
and_not x y b e f g = rw (e, f, g)

or_second : (x y : Bool) → y ≡ true → (x || y) ≡ true
or_second true y e = refl
or_second false y e = e

pub of_halved : {j : ℕ} {s : List Segment} → Halved j s → halved j s ≡ true
unfolding halved is_whole
of_halved (one zero g e) = rw (eq-eqb (total (g ∷ [])) 1 (total_one g ∙ e))
of_halved (one (suc j) g e) = rw (eq-eqb (total (g ∷ [])) (2 ^ suc j) (total_one g ∙ e))
of_halved (two j a b x y f) =
    let t = a ++ b in
    or_second (is_whole t && eqb (total t) (2 ^ suc j))
    (halved j (low_of (2 ^ j) t) && (halved j (high_of (2 ^ j) t) && not (is_free (low_of (2 ^ j) t) && is_free (high_of (2 ^ j) t))))
    (rw (low_of_lem (2 ^ j) a b (halved_sized x) (halved_total x), high_of_lem (2 ^ j) a b (halved_sized x) (halved_total x))
    (and_not (halved j a) (halved j b) (is_free a && is_free b) (of_halved x) (of_halved y) f))

whole_one : (n : ℕ) (s : List Segment) → (is_whole s && eqb (total s) n) ≡ true → (g : Segment) × (s ≡ g ∷ []) × (size_of g ≡ n)
unfolding is_whole
whole_one n [] e = absurd (let z : ◌≡◌ {A = ℕ} 0 1 = cc in omega arith)
whole_one n (g ∷ []) e = (g, refl, sym (total_one g) ∙ eqb-true (total (g ∷ [])) n e)
whole_one n (g ∷ h ∷ s) e = absurd (let z : ◌≡◌ {A = ℕ} 0 1 = cc in omega arith)

not_true : (b : Bool) → not b ≡ true → b ≡ false
not_true false e = refl
not_true true e = sym e

whole_halved : (j : ℕ) (s : List Segment) → (is_whole s && eqb (total s) (2 ^ j)) ≡ true → Halved j s
whole_halved j s e = let w = whole_one (2 ^ j) s e in rw w.1 (one j w.0 w.2)

pub to_halved : (j : ℕ) (s : List Segment) → halved j s ≡ true → Halved j s
unfolding halved
to_halved zero s e = whole_halved 0 s e
to_halved (suc j) s e = go (is_whole s && eqb (total s) (2 ^ suc j)) refl e (λ h. to_halved j a h) (λ h. to_halved j b h)
  where
    a : List Segment
    a = low_of (2 ^ j) s

    b : List Segment
    b = high_of (2 ^ j) s

    go : (w : Bool) → (is_whole s && eqb (total s) (2 ^ suc j)) ≡ w → (w || (halved j a && (halved j b && not (is_free a && is_free b)))) ≡ true
        → (halved j a ≡ true → Halved j a) → (halved j b ≡ true → Halved j b) → Halved (suc j) s
    go true f h low high = whole_halved (suc j) s f
    go false f h low high =
        let p = both_true (halved j a) _ h in
        let q = both_true (halved j b) _ p.1 in
        rw (sym (split (2 ^ j) s)) (two j a b (low p.0) (high q.0) (not_true _ q.1))

-- of a whole map
pub proper_of : {j : ℕ} {s : List Segment} → Halved j s → halves.proper s ≡ true
proper_of {j} {s} h = let e : level (total s) ≡ j = ap level (halved_total h) ∙ level_power j in rw e (of_halved h)

pub proper_halved : (s : List Segment) → halves.proper s ≡ true → Halved (level (total s)) s
proper_halved s e = to_halved (level (total s)) s e

-- ---- NOTHING HELD: one free block again

any_append : (a b : List Segment) → any is_held_segment (a ++ b) ≡ (any is_held_segment a || any is_held_segment b)
unfolding any
any_append [] b = refl
any_append (free n ∷ a) b = any_append a b
any_append (held n ∷ a) b = refl

pub any_left : (a b : List Segment) → any is_held_segment a ≡ true → any is_held_segment (a ++ b) ≡ true
any_left a b e = any_append a b ∙ rw e

neither : (x y : Bool) → (x || y) ≡ false → (x ≡ false) × (y ≡ false)
neither true y e = (e, absurd (let z : ◌≡◌ {A = ℕ} 0 1 = cc in omega arith))
neither false y e = (refl, e)

pub none_held : {j : ℕ} {s : List Segment} → Halved j s → any is_held_segment s ≡ false → s ≡ free (2 ^ j) ∷ []
unfolding any is_free
none_held (one j (free n) e) h = ap (λ (k : ℕ). free k ∷ []) e
none_held (one j (held n) e) h = absurd (let z : ◌≡◌ {A = ℕ} 0 1 = cc in omega arith)
none_held (two j a b x y f) h =
    let n = neither (any is_held_segment a) (any is_held_segment b) (sym (any_append a b) ∙ h) in
    let p : a ≡ free (2 ^ j) ∷ [] = none_held x n.0 in
    let q : b ≡ free (2 ^ j) ∷ [] = none_held y n.1 in
    let t : (is_free a && is_free b) ≡ true = rw (p, q) in
    absurd (let z : ◌≡◌ {A = Bool} true false = cc in let w : ◌≡◌ {A = ℕ} 0 1 = cc in omega arith)

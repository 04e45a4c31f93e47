-- The search of a map by halves: of the free blocks that have the pages, the first of the smallest is the one that `place_block` names.
-- By induction over the segments. Assumes nothing.
use Rattle.std.proofs.Common.{◌≡◌, ℕ, zero, suc, ◌+◌, ◌<◌, ◌≤◌, Bool, true, false, cond, not, ◌&&◌, List, [], ◌∷◌, Option, None, Some, refl, sym, ap, ◌∙◌, arith, IfSome, MatchOption, nat_lt, nat_eq}
use denote.Param.Members.{Mut}
use denote.Ref.{Bor}
use Rattle.std.specs.Fn.{CalledAt}
use Rattle.std.specs.Iterator.{KeyTurn, PicksMinByKey}
use Rattle.std.proofs.lemmas.Iterator.{YieldsList}
use Rattle.map.proofs.Walked.{drained}
use Rattle.std.specs.List.{filter, fold, reduce, FoldsTo}
use Rattle.std.specs.Option.{option_map}
use Rattle.std.specs.Ordering.{nat_cmp, min_by_ordering}
use Rattle.std.specs.declared.cmp.Ordering.{Ordering}
use Rattle.std.specs.declared.cmp.Ordering.TheVariants.{Less, Equal, Greater}
use lib.Dec.{eqb, leb}
use borrow.Author.Tests.{leb-true, leb-false, eq-eqb, ne_eqb, eqb-false, le-ltb, ltb-false}
use Rattle.manager.specs.Map.{free, held, decode, tiled}
use Rattle.manager.specs.Map.{Segment as Described}
use Rattle.manager.specs.Halves.{FreeAt, lesser, smallest, lowest_free, place_block}
use Rattle.manager.proofs.Laws.Map.{Sized, sized_decoded, total_decoded}
use Rattle.manager.proofs.Laws.Halves.Place.{free_within, lowest_there}
use Rattle.segments.specs.MapWords.{IsSmallest}
use Rattle.map.specs.Walk.{placed, placed_at}
use Rattle.map.specs.declared.walk.Segment.{Segment}

-- a free block of k pages or more
abbrev pub serves : ℕ → Segment → Bool
serves k x = not x.held && leb k x.pages

-- of two blocks the smaller, and the first of two of one size
abbrev pub better : Segment → Segment → Segment
better x y = min_by_ordering (nat_cmp x.pages y.pages) x y

better_first : (x y : Segment) → x.pages ≤ y.pages → better x y ≡ x
better_first x y l = go (nat_lt x.pages y.pages) (nat_eq x.pages y.pages) refl refl
  where
    go : (a b : Bool) → nat_lt x.pages y.pages ≡ a → nat_eq x.pages y.pages ≡ b → better x y ≡ x
    go true b e f = rw e
    go false true e f = rw (e, f)
    go false false e f = absurd (omega (arith, ltb-false x.pages y.pages e, eqb-false x.pages y.pages f))

better_second : (x y : Segment) → y.pages < x.pages → better x y ≡ y
better_second x y l =
    let a : nat_lt x.pages y.pages ≡ false = le-ltb _ _ (omega arith) in
    let b : nat_eq x.pages y.pages ≡ false = ne_eqb _ _ (λ e. omega arith) in
    rw (a, b)

lesser_suc : (n m : ℕ) → lesser n (suc m) ≡ cond (leb n (suc m)) n (suc m)
lesser_suc n m = rw (ne_eqb (suc m) 0 (λ e. omega arith))

-- what the blocks behind one that was found leave of it, where the smallest of them has m pages, or m is 0 for none: it stays where it is no
-- larger; else the lowest of the smallest takes its place
pub record Chosen (m : ℕ) (lowest : ℕ → Option ℕ) (x y : Segment) : Type 0 where
  pub none : m ≡ 0 → y ≡ x
  pub kept : x.pages ≤ m → y ≡ x
  pub pages : 1 ≤ m → m < x.pages → y.pages ≡ m
  pub place : 1 ≤ m → m < x.pages → lowest m ≡ Some y.at

-- the lowest block of a size, where a free block of n pages stands before the others
abbrev with_block : ℕ → ℕ → (ℕ → Option ℕ) → ℕ → Option ℕ
with_block at n lowest b = cond (eqb n b) (Some at) (lowest b)

module _ (lowest : ℕ → Option ℕ) (at n : ℕ) (o : 1 ≤ n) (x y : Segment) where
  abbrev more : ℕ → Option ℕ
  more = with_block at n lowest

  abbrev z : Segment
  z = placed_at at (free n)

  -- one that is not of their size changes nothing
  passed : (m : ℕ) → (1 ≤ m → n ≡ m → ⊥) → Chosen m lowest x y → Chosen m more x y
  passed m h c =
      record {
        none = c.none;
        kept = c.kept;
        pages = c.pages;
        place = λ p q. rw (ne_eqb n m (h p)) (c.place p q);
      }

  -- one that serves, and none behind it is smaller; and one behind it is
  first_kept : y ≡ better x z → Chosen n more x y
  first_kept e =
      record {
        none = λ p. absurd (omega arith);
        kept = λ p. e ∙ better_first x z p;
        pages = λ p q. ap (λ (w : Segment). w.pages) (e ∙ better_second x z q);
        place = λ p q. rw (eq-eqb n n refl) (ap (λ (w : Segment). Some w.at) (sym (better_second x z q) ∙ sym e));
      }

  later_kept : (m : ℕ) → 1 ≤ m → m < n → Chosen m lowest (better x z) y → Chosen m more x y
  later_kept m p l c = go (leb x.pages n) refl
    where
      go : (b : Bool) → leb x.pages n ≡ b → Chosen m more x y
      go true e = passed m (λ p e. omega arith) (rw (better_first x z (leb-true x.pages n e)) at c)
      go false e = taken_by (leb-false x.pages n e) (rw (better_second x z (leb-false x.pages n e)) at c)
        where
          taken_by : n < x.pages → Chosen m lowest z y → Chosen m more x y
          taken_by h d =
              record {
                none = λ q. absurd (omega arith);
                kept = λ q. absurd (omega arith);
                pages = λ p q. d.pages p l;
                place = λ p q. rw (ne_eqb n m (λ e. omega arith)) (d.place p l);
              }

  small : (better x z).pages ≤ n
  small = go (leb x.pages n) refl
    where
      go : (b : Bool) → leb x.pages n ≡ b → (better x z).pages ≤ n
      go true e = rw (better_first x z (leb-true x.pages n e)) (leb-true x.pages n e)
      go false e = rw (better_second x z (leb-false x.pages n e)) (omega arith)

  served : (m : ℕ) → Chosen m lowest (better x z) y → Chosen (lesser n m) more x y
  served zero c = first_kept (c.none refl)
  served (suc k) c = rw lesser_suc (go (leb n (suc k)) refl)
    where
      go : (b : Bool) → leb n (suc k) ≡ b → Chosen (cond b n (suc k)) more x y
      go true e = first_kept (c.kept (omega (arith, small, leb-true n (suc k) e)))
      go false e = later_kept (suc k) (omega arith) (leb-false n (suc k) e) c

lesser_least : (k n m : ℕ) → k ≤ n → (1 ≤ m → k ≤ m) → k ≤ lesser n m
lesser_least k n zero h l = h
lesser_least k n (suc m) h l = rw lesser_suc (go (leb n (suc m)))
  where
    go : (b : Bool) → k ≤ cond b n (suc m)
    go true = h
    go false = l (omega arith)

-- the smallest that serves has the pages
enough : (k : ℕ) (s : List Described) → 1 ≤ smallest k s → k ≤ smallest k s
unfolding smallest
enough k [] o = absurd (omega arith)
enough k (held n ∷ s) o = enough k s o
enough k (free n ∷ s) o = go (leb k n) refl (enough k s) o
  where
    go : (b : Bool) → leb k n ≡ b → (1 ≤ smallest k s → k ≤ smallest k s) → 1 ≤ cond b (lesser n (smallest k s)) (smallest k s)
        → k ≤ cond b (lesser n (smallest k s)) (smallest k s)
    go false e h o = h o
    go true e h o = lesser_least k n (smallest k s) (leb-true k n e) h

abbrev pub serving : ℕ → ℕ → List Described → List Segment
serving k at s = filter (serves k) (placed at s)

chosen : (k at : ℕ) (s : List Described) (x : Segment) → Sized s → Chosen (smallest k s) (λ b. lowest_free b at s) x (fold better x (serving k at s))
unfolding placed smallest lowest_free
chosen k at [] x w = record { none = λ p. refl; kept = λ p. refl; pages = λ p q. absurd (omega arith); place = λ p q. absurd (omega arith) }
chosen k at (held n ∷ s) x w = chosen k (at + n) s x w.1
chosen k at (free n ∷ s) x w = go (leb k n) refl
    (λ y. chosen k (at + n) s y w.1)
  where
    go : (b : Bool) → leb k n ≡ b
        → ((y : Segment) → Chosen (smallest k s) (λ b. lowest_free b (at + n) s) y (fold better y (serving k (at + n) s)))
        → Chosen (cond b (lesser n (smallest k s)) (smallest k s)) (λ b. cond (eqb n b) (Some at) (lowest_free b (at + n) s)) x
        (fold better x (cond b (placed_at at (free n) ∷ serving k (at + n) s) (serving k (at + n) s)))
    go true e h = served _ at n w.0 x _ (smallest k s) (h (better x (placed_at at (free n))))
    go false e h = passed _ at n w.0 x _ (smallest k s) (λ o. let l = leb-false k n e in let m = enough k s o in omega arith) (h x)

-- the first of the smallest blocks, where the smallest has m pages, or m is 0 for none
pub record Best (m : ℕ) (lowest : ℕ → Option ℕ) (r : Option Segment) : Type 0 where
  pub place : option_map (λ (x : Segment). x.at) r ≡ cond (eqb m 0) None (lowest m)
  pub pages : IfSome r (λ x. x.pages ≡ m)

module _ (lowest : ℕ → Option ℕ) (at n : ℕ) (o : 1 ≤ n) where
  best_passed : (m : ℕ) (r : Option Segment) → (1 ≤ m → n ≡ m → ⊥) → Best m lowest r → Best m (with_block at n lowest) r
  best_passed zero r h c = record { place = c.place; pages = c.pages }
  best_passed (suc m) r h c = record { place = rw (ne_eqb n (suc m) (h (omega arith))) c.place; pages = c.pages }

  lesser_most : (m : ℕ) → lesser n m ≤ n
  lesser_most zero = omega arith
  lesser_most (suc m) = rw lesser_suc (go (leb n (suc m)) refl)
    where
      go : (b : Bool) → leb n (suc m) ≡ b → cond b n (suc m) ≤ n
      go true e = omega arith
      go false e = omega (arith, leb-false n (suc m) e)

  -- one that serves is chosen as before a larger one
  best_served : (m : ℕ) (y : Segment) → Chosen m lowest (placed_at at (free n)) y → Best (lesser n m) (with_block at n lowest) (Some y)
  best_served m y c =
      let x : Segment = record { at = 0; pages = suc n; held = false } in
      let some : 1 ≤ lesser n m = lesser_least 1 n m o (λ h. h) in
      let less : lesser n m < suc n = omega (arith, lesser_most m) in
      let d = served lowest at n o x y m (rw (better_second x (placed_at at (free n)) (omega arith)) c) in
      record { place = rw (ne_eqb (lesser n m) 0 (λ e. omega arith)) (sym (d.place some less)); pages = d.pages some less }

best : (k at : ℕ) (s : List Described) → Sized s → Best (smallest k s) (λ b. lowest_free b at s) (reduce better (serving k at s))
unfolding placed smallest lowest_free
best k at [] w = record { place = refl; pages = tt }
best k at (held n ∷ s) w = best k (at + n) s w.1
best k at (free n ∷ s) w = go (leb k n) refl (chosen k (at + n) s (placed_at at (free n)) w.1) (best k (at + n) s w.1)
  where
    go : (b : Bool) → leb k n ≡ b
        → Chosen (smallest k s) (λ b. lowest_free b (at + n) s) (placed_at at (free n)) (fold better (placed_at at (free n)) (serving k (at + n) s))
        → Best (smallest k s) (λ b. lowest_free b (at + n) s) (reduce better (serving k (at + n) s))
        → Best (cond b (lesser n (smallest k s)) (smallest k s)) (λ b. cond (eqb n b) (Some at) (lowest_free b (at + n) s))
        (reduce better (cond b (placed_at at (free n) ∷ serving k (at + n) s) (serving k (at + n) s)))
    go true e c h = best_served _ at n w.0 (smallest k s) _ c
    go false e c h = best_passed _ at n w.0 (smallest k s) _ (λ o. let l = leb-false k n e in let m = enough k s o in omega arith) h

-- THE LAW: it is the one that a get takes
pub smallest_is : (k : ℕ) (ws : List ℕ) (r : Option Segment) → tiled ws ≡ true → r ≡ reduce better (serving k 0 (decode ws))
    → MatchOption r (None ≡ place_block k 0 (decode ws)) (IsSmallest k ws)
unfolding place_block
smallest_is k ws r ok e = go r (rw e (best k 0 (decode ws) (sized_decoded ws ok)))
  where
    at_some : (b : Bool) (y : Segment) → eqb (smallest k (decode ws)) 0 ≡ b → Some y.at ≡ cond b None (lowest_free (smallest k (decode ws)) 0 (decode ws))
        → (1 ≤ smallest k (decode ws)) × (lowest_free (smallest k (decode ws)) 0 (decode ws) ≡ Some y.at)
    at_some true y f h = absurd cc
    at_some false y f h = let n = eqb-false (smallest k (decode ws)) 0 f in (omega arith, sym h)

    go : (r : Option Segment) → Best (smallest k (decode ws)) (λ b. lowest_free b 0 (decode ws)) r
        → MatchOption r (None ≡ place_block k 0 (decode ws)) (IsSmallest k ws)
    go None h = h.place
    go (Some y) h =
        let p = at_some (eqb (smallest k (decode ws)) 0) y refl h.place in
        let l : y.pages ≡ smallest k (decode ws) = h.pages in
        let t : FreeAt (decode ws) 0 y.at y.pages = rw l (lowest_there (smallest k (decode ws)) 0 (decode ws) y.at p.1).0 in
        record {
          within = omega (arith, (free_within (decode ws) 0 y.at y.pages t).1, total_decoded ws ok);
          there = t;
          enough = omega (arith, enough k (decode ws) p.0);
          pages = l;
          place = h.place;
        }

-- ---- what `min_by_key` gives, where the closure reads a key and stays as it is

module _ {F A K : Type 0} (g : Mut F (Bor A × Unit {0}) K) (cmp : K → K → Ordering) (f : F) (key : A → K)
    (acts : (x : A) (k : K) (q : F) → CalledAt g f x k q → (q ≡ f) × (k ≡ key x)) where
  abbrev first : A → A → A
  first x y = min_by_ordering (cmp (key x) (key y)) x y

  key_first : (o : Ordering) (x y : A) → min_by_ordering o (key x) (key y) ≡ key (min_by_ordering o x y)
  key_first Less x y = refl
  key_first Equal x y = refl
  key_first Greater x y = refl

  turns : (p : (F × K) × A) (xs : List A) (q : (F × K) × A) → p.0.0 ≡ f → p.0.1 ≡ key p.1
      → FoldsTo {P = (F × K) × A} (KeyTurn min_by_ordering min_by_ordering g cmp) p xs q → q.1 ≡ fold first p.1 xs
  turns p [] q ef ek h = sym (ap (λ (r : (F × K) × A). r.1) h)
  turns p (x ∷ xs) q ef ek (j, t, h) =
      let a = acts x t.0 j.0.0 (rw ef at t.2) in
      let o : t.1 ≡ cmp (key p.1) (key x) = sym t.3 ∙ cc in
      let k : j.0.1 ≡ key j.1 = t.4 ∙ rw (ek, a.1) (key_first t.1 p.1 x) ∙ ap key (sym t.5) in
      turns j xs q a.0 k h ∙ ap (λ (w : A). fold first w xs) (t.5 ∙ ap (λ (r : Ordering). min_by_ordering r p.1 x) o)

  pub least_by_key : {S : Type 0} {steps : S → Option A → S → Type 0} (s : S) (r : Option A) (all : List A) → PicksMinByKey steps g cmp s f r
      → YieldsList steps (λ x. x) s all → r ≡ reduce first all
  least_by_key s None all p road = ap (reduce first) (drained [] p road)
  least_by_key s (Some y) all (x, xs, k, f', q, d, t, h) road =
      let a = acts x k f' t in
      ap Some (turns ((f', k), x) xs (q, y) a.0 a.1 h) ∙ ap (reduce first) (drained (x ∷ xs) d road)

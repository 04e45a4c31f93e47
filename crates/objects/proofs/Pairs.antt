-- Each object with those behind it, one step after the other; and the areas of both kinds. Assumes nothing.
use Rattle.std.proofs.Common.{◌≡◌, ℕ, ◌+◌, ◌-◌, ◌≤◌, ◌<◌, take, drop, get_or, Bool, true, false, not, ◌&&◌, ◌||◌, List, [], ◌∷◌, ◌++◌, length, eqb, ltb, refl, sym, ap, ◌∙◌, arith}
use borrow.Author.Tests.{eqb-true, le-ltb}
use mathlib.Core.Bool.{and-false, and-true}
use Rattle.std.proofs.lemmas.List.{take_rest}
use Rattle.manager.specs.declared.Area.{Area}
use Rattle.manager.specs.declared.Region.{Region}
use Rattle.manager.specs.declared.Partition.{Partition}
use Rattle.manager.specs.Lists.{every, any, pairwise}
use Rattle.manager.specs.Region.{area_of, region_areas, partition_areas, overlap}
use Rattle.manager.specs.Sound.{other_name}
use Rattle.manager.specs.Record.{slots}
use Rattle.manager.proofs.Laws.Lists.{and_first, and_second, get_d_any, Pairing, pairwise_next, pairwise_fail, pairwise_end}
use Rattle.objects.specs.Areas.{nowhere}

module _ {A : Type 0} where
  -- none passes a test that all fail
  pub none_any : (t : A → Bool) → ((x : A) → t x ≡ false) → (l : List A) → any t l ≡ false
  unfolding any
  none_any t h [] = refl
  none_any t h (x ∷ l) = rw (h x) (none_any t h l)

  -- every one fails a test where none passes it
  fails : (t : A → Bool) (x : A) (l : List A) (b : Bool) (w : Bool) → w ≡ not (any t l) → (not b && w) ≡ not (b || any t l)
  fails t x l true w h = refl
  fails t x l false w h = h

  pub every_not : (t : A → Bool) (l : List A) → every (λ x. not (t x)) l ≡ not (any t l)
  unfolding every any
  every_not t [] = refl
  every_not t (x ∷ l) = fails t x l (t x) (every (λ x. not (t x)) l) (every_not t l)

  -- the same of a test that c spares all
  every_or : (c : Bool) (t : A → Bool) (l : List A) → every (λ x. c || not (t x)) l ≡ not (not c && any t l)
  unfolding every any
  every_or true t [] = refl
  every_or true t (x ∷ l) = every_or true t l
  every_or false t l = every_not t l

  -- THE STEPS OVER A LIST, where each has to pass the test with those behind it
  module _ (t : A → A → Bool) (all rest : List A) (h : pairwise t rest ≡ pairwise t all) where
    pub pairs_end : length rest ≡ 0 → true ≡ pairwise t all
    unfolding pairwise
    pairs_end e = by_length rest e h
      where
        by_length : (l : List A) → length l ≡ 0 → pairwise t l ≡ pairwise t all → true ≡ pairwise t all
        by_length [] e h = h
        by_length (x ∷ l) e h = absurd (omega (arith, e))

    module _ (x : A) (behind : List A) (e : rest ≡ x ∷ behind) where
      first : (every (t x) behind && pairwise t behind) ≡ pairwise t all
      unfolding pairwise
      first = sym (ap {B = Bool} (pairwise t) e) ∙ h

      pub pairs_here : every (t x) behind ≡ false → false ≡ pairwise t all
      pairs_here f = rw f at first

      pub pairs_next : every (t x) behind ≡ true → pairwise t behind ≡ pairwise t all
      pairs_next f = rw f at first

  -- where the test is that another fails, and b says whether one behind passes that
  module _ (u : A → A → Bool) (all rest : List A) (h : pairwise (λ x y. not (u x y)) rest ≡ pairwise (λ x y. not (u x y)) all) (x : A) (behind : List A) (e : rest ≡ x ∷ behind) (b : Bool) (f : b ≡ any (u x) behind) where
    met : every (λ y. not (u x y)) behind ≡ not b
    met = every_not (u x) behind ∙ ap not (sym f)

    pub clash_here : b ≡ true → false ≡ pairwise (λ x y. not (u x y)) all
    clash_here g = pairs_here (λ x y. not (u x y)) all rest h x behind e (met ∙ ap not g)

    pub clash_next : b ≡ false → pairwise (λ x y. not (u x y)) behind ≡ pairwise (λ x y. not (u x y)) all
    clash_next g = pairs_next (λ x y. not (u x y)) all rest h x behind e (met ∙ ap not g)

-- NAMES THAT DIFFER: no name before place i is one behind it. The object x is in slot i, and b says whether its name is one from place j on,
-- which is the next
module _ {A : Type 0} (name : A → ℕ) (z : A) (l : List A) (w : Bool) (i : ℕ) (v : Pairing (other_name name) l slots w i) where
  module _ (m k : List A) (q : m ≡ l) (p : k ≡ l) (h : i < length m) (x : A) (e : x ≡ get_or m i x) (n : ℕ) (f : n ≡ name x) (j : ℕ) (b : Bool)
      (g : b ≡ (not (eqb n 0) && any (λ y. eqb n (name y)) (take (length k - j) (drop j k)))) (u : j ≡ i + 1) where
    within : i < slots
    within = omega (arith, v.size, ap length q)

    behind : not b ≡ every (other_name name (get_or l i z)) (drop (i + 1) l)
    behind =
        let here : get_or l i z ≡ x = rw q at (get_d_any m i z x h ∙ sym e) in
        let rest : take (length k - j) (drop j k) ≡ drop (i + 1) l = rw u (take_rest k (i + 1) ∙ ap (drop (i + 1)) p) in
        ap not (g ∙ ap (λ (r : List A). not (eqb n 0) && any (λ y. eqb n (name y)) r) rest) ∙ sym (every_or (eqb n 0) (λ y. eqb n (name y)) (drop (i + 1) l))
        ∙ rw (here, f)

    pub names_clash : b ≡ true → false ≡ w
    names_clash c = pairwise_fail (other_name name) l slots w i v within z (not b) behind (ap not c)

    pub names_next : b ≡ false → Pairing (other_name name) l slots w (i + 1)
    names_next c = pairwise_next (other_name name) l slots w i v within z (not b) behind (ap not c)

  pub names_end : (m : List A) → m ≡ l → length m ≤ i → true ≡ w
  names_end m q h = pairwise_end (other_name name) l slots w i v (omega (arith, v.size, ap length q))

-- an area that is nowhere meets none
pub nowhere_meets : (a : Area) → nowhere a ≡ true → (b : Area) → overlap a b ≡ false
nowhere_meets a e b =
    let s : a.start ≡ 0 = eqb-true a.start 0 (and_first (eqb a.start 0) (eqb a.length 0) e) in
    let n : a.length ≡ 0 = eqb-true a.length 0 (and_second (eqb a.start 0) (eqb a.length 0) e) in
    rw (le-ltb b.start (a.start + a.length) (omega arith)) (and-false (ltb a.start (b.start + b.length)))

-- one test, and then another
module _ (x p q : Bool) (e : x ≡ p) where
  pub and_then : x ≡ true → (y : Bool) → y ≡ q → y ≡ (p && q)
  and_then h y f = rw (← e, h) f

  pub and_not : x ≡ false → x ≡ (p && q)
  and_not h = rw (← e, h) refl

  pub or_else : x ≡ false → (y : Bool) → y ≡ q → y ≡ (p || q)
  or_else h y f = rw (← e, h) f

  pub or_yes : x ≡ true → x ≡ (p || q)
  or_yes h = rw (← e, h) refl

-- THE AREAS OF BOTH KINDS: tests over all are tests over the regions and over the partitions
abbrev pub region_area : Region → Area
region_area r = record { start = r.start; length = r.length }

abbrev clear : Area → Area → Bool
clear a b = not (overlap a b)

or_swap : (a b c : Bool) → (a || (b || c)) ≡ ((a || b) || c)
or_swap true b c = refl
or_swap false b c = refl

and_swap : (a b c : Bool) → (a && (b && c)) ≡ ((a && b) && c)
and_swap true b c = refl
and_swap false b c = refl

and_parts : (a b c d e : Bool) → ((a && b) && ((c && d) && e)) ≡ (((a && c) && d) && (b && e))
and_parts false b c d e = refl
and_parts true true c d e = refl
and_parts true false c d e = sym (and-false (c && d))

module _ (t : Area → Bool) where
  any_partition : (ps : List Partition) → any t (partition_areas ps) ≡ any (λ p. t (area_of p)) ps
  unfolding any partition_areas
  any_partition [] = refl
  any_partition (p ∷ ps) = ap (λ (b : Bool). t (area_of p) || b) (any_partition ps)

  pub any_parts : (rs : List Region) (ps : List Partition)
      → any t (region_areas rs ++ partition_areas ps) ≡ (any (λ r. t (region_area r)) rs || any (λ p. t (area_of p)) ps)
  unfolding any region_areas
  any_parts [] ps = any_partition ps
  any_parts (r ∷ rs) ps = ap (λ (b : Bool). t (region_area r) || b) (any_parts rs ps) ∙ or_swap (t (region_area r)) _ _

  every_partition : (ps : List Partition) → every t (partition_areas ps) ≡ every (λ p. t (area_of p)) ps
  unfolding every partition_areas
  every_partition [] = refl
  every_partition (p ∷ ps) = ap (λ (b : Bool). t (area_of p) && b) (every_partition ps)

  every_parts : (rs : List Region) (ps : List Partition)
      → every t (region_areas rs ++ partition_areas ps) ≡ (every (λ r. t (region_area r)) rs && every (λ p. t (area_of p)) ps)
  unfolding every region_areas
  every_parts [] ps = every_partition ps
  every_parts (r ∷ rs) ps = ap (λ (b : Bool). t (region_area r) && b) (every_parts rs ps) ∙ and_swap (t (region_area r)) _ _

pairs_partition : (ps : List Partition) → pairwise clear (partition_areas ps) ≡ pairwise (λ x y. clear (area_of x) (area_of y)) ps
unfolding pairwise partition_areas
pairs_partition [] = refl
pairs_partition (p ∷ ps) = rw (every_partition (clear (area_of p)) ps, pairs_partition ps) refl

abbrev apart_of_partitions : List Partition → Region → Bool
apart_of_partitions ps r = not (any (λ p. overlap (region_area r) (area_of p)) ps)

pub pairs_parts : (rs : List Region) (ps : List Partition)
    → pairwise (λ a b. not (overlap a b)) (region_areas rs ++ partition_areas ps)
    ≡ ((pairwise (λ x y. not (overlap (region_area x) (region_area y))) rs && pairwise (λ x y. not (overlap (area_of x) (area_of y))) ps)
    && every (λ r. not (any (λ p. overlap (region_area r) (area_of p)) ps)) rs)
unfolding pairwise every region_areas
pairs_parts [] ps = pairs_partition ps ∙ sym (and-true _)
pairs_parts (r ∷ rs) ps =
    ap (λ (b : Bool). b && pairwise clear (region_areas rs ++ partition_areas ps)) (every_parts (clear (region_area r)) rs ps
    ∙ ap (λ (b : Bool). every (λ y. clear (region_area r) (region_area y)) rs && b) (every_not (λ p. overlap (region_area r) (area_of p)) ps))
    ∙ ap (λ (b : Bool). (every (λ y. clear (region_area r) (region_area y)) rs && apart_of_partitions ps r) && b) (pairs_parts rs ps)
    ∙ and_parts (every (λ y. clear (region_area r) (region_area y)) rs) (apart_of_partitions ps r) _ _ _

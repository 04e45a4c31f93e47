-- Counting the segments of a map on a walk: what is counted so far with what is left gives the whole, and no number is above the
-- map's length. Assumes nothing.
use Prim.Native.Nat.{ℕ, suc, ◌+◌, ◌*◌, ◌≤◌, max}
use mathlib.Core.Path.{◌≡◌, sym, ap, ◌∙◌}
use mathlib.Core.Bool.{true, false}
use mathlib.Core.List.{List, [], ◌∷◌, map}
use native.Mathlib.Nat.{add-zero, zero-add, zero-max, max-zero, max-le, mul-le-mul, lt_of_le_of_lt}
use native.Mathlib.Omega.{arith}
use lib.ListN.{length}
use mir.Syntax.{w32}
use mir.Val.{Fits}
use borrow.Author.Rules.{Fits-under}
use Rattle.manager.specs.Map.{Segment, free, held, decode, tiled, free_sizes, held_sizes, largest_of, sum_of, total}
use Rattle.manager.proofs.Laws.Map.{Sized, sized_decoded, total_decoded}
use Rattle.map.specs.Walk.{placed}
use Rattle.map.specs.declared.walk.Segment.{Segment as Placed}
use Rattle.map.proofs.Walked.{EndBy, placed_end, end_by_more, told, told_placed}
use Rattle.regions.specs.declared.tally.Tally.{Tally}
use Rattle.regions.specs.Count.{tally_of, with_segment, Small}

-- two counts together
abbrev plus : Tally → Tally → Tally
plus t u = record { count = t.count + u.count; largest = max t.largest u.largest; total = t.total + u.total }

plus_none : (t : Tally) → plus (record { count = 0; largest = 0; total = 0 }) t ≡ t
plus_none t j = record { count = zero-add t.count j; largest = zero-max t.largest j; total = zero-add t.total j }

pub nothing : (t : Tally) → (t.count ≡ 0) × ((t.largest ≡ 0) × (t.total ≡ 0)) → t ≡ tally_of []
unfolding largest_of sum_of
nothing t e j = record { count = e.0 j; largest = e.1.0 j; total = e.1.1 j }

plus_end : (t : Tally) → plus t (tally_of []) ≡ t
unfolding largest_of sum_of
plus_end t j = record { count = add-zero t.count j; largest = max-zero t.largest j; total = add-zero t.total j }

max_assoc : (a b c : ℕ) → max (max a b) c ≡ max a (max b c)
max_assoc a b c = omega arith

one_more : (a b : ℕ) → a + suc b ≡ a + 1 + b
one_more a b = omega arith

sum_more : (a n b : ℕ) → a + (n + b) ≡ a + n + b
sum_more a n b = omega arith

plus_more : (t : Tally) (n : ℕ) (s : List ℕ) → plus t (tally_of (n ∷ s)) ≡ plus (with_segment t n) (tally_of s)
unfolding largest_of sum_of
plus_more t n s j =
    record {
      count = one_more t.count (length s) j;
      largest = sym (max_assoc t.largest n (largest_of s)) j;
      total = sum_more t.total n (sum_of s) j;
    }

-- a map has no more pages than words, and no more segments than pages
pub record Within (s : List Segment) (n : ℕ) : Type 0 where
  pub pages : sum_of (free_sizes s) + sum_of (held_sizes s) ≤ n
  pub frees : length (free_sizes s) ≤ sum_of (free_sizes s)
  pub helds : length (held_sizes s) ≤ sum_of (held_sizes s)
  pub free_most : largest_of (free_sizes s) ≤ sum_of (free_sizes s)
  pub held_most : largest_of (held_sizes s) ≤ sum_of (held_sizes s)

within : (s : List Segment) → Sized s → Within s (total s)
unfolding free_sizes held_sizes largest_of sum_of total
within [] w = record { pages = omega arith; frees = omega arith; helds = omega arith; free_most = omega arith; held_most = omega arith }
within (free n ∷ s) w =
    let h = within s w.1 in
    record {
      pages = omega arith;
      frees = omega (arith, w.0);
      helds = h.helds;
      free_most = max-le {a = n} (omega arith) (omega arith);
      held_most = h.held_most;
    }
within (held n ∷ s) w =
    let h = within s w.1 in
    record {
      pages = omega arith;
      frees = h.frees;
      helds = omega (arith, w.0);
      free_most = h.free_most;
      held_most = max-le {a = n} (omega arith) (omega arith);
    }

words_within : (ws : List ℕ) → tiled ws ≡ true → Within (decode ws) (length ws)
words_within ws ok = rw total_decoded at (within (decode ws) (sized_decoded ws ok))

within_more : (s : List Segment) (n m : ℕ) → n ≤ m → Within s n → Within s m
within_more s n m l w = record { pages = omega arith; frees = w.frees; helds = w.helds; free_most = w.free_most; held_most = w.held_most }

-- the walk has the segments xs left, with free and held ones counted
abbrev frees : List Placed → List ℕ
frees xs = free_sizes (map told xs)

abbrev helds : List Placed → List ℕ
helds xs = held_sizes (map told xs)

pub record Counting (ws : List ℕ) (xs : List Placed) (f h : Tally) : Type 0 where
  pub ends : EndBy 16384 xs
  pub within : Within (decode ws) 16384
  pub free : plus f (tally_of (frees xs)) ≡ tally_of (free_sizes (decode ws))
  pub held : plus h (tally_of (helds xs)) ≡ tally_of (held_sizes (decode ws))

pub count_start : (ws : List ℕ) (xs : List Placed) (f h : Tally) → tiled ws ≡ true → length ws ≤ 16384 → xs ≡ placed 0 (decode ws) → f ≡ tally_of [] → h ≡ tally_of []
    → Counting ws xs f h
unfolding largest_of sum_of
count_start ws xs f h ok short e ef eh =
    let t = told_placed 0 (decode ws) in
    rw (e, ef, eh)
    (record {
      ends = end_by_more (length ws) 16384 (placed 0 (decode ws)) short (placed_end ws ok);
      within = within_more (decode ws) (length ws) 16384 short (words_within ws ok);
      free = plus_none (tally_of (frees (placed 0 (decode ws)))) ∙ ap (λ (s : List Segment). tally_of (free_sizes s)) t;
      held = plus_none (tally_of (helds (placed 0 (decode ws)))) ∙ ap (λ (s : List Segment). tally_of (held_sizes s)) t;
    })

module _ (ws : List ℕ) (xs : List Placed) (f h : Tally) (c : Counting ws xs f h) where
  pub free_few : (f.count ≤ 16384) × (f.total ≤ 16384)
  free_few = (omega (arith, ap (λ (u : Tally). u.count) c.free, c.within), omega (arith, ap (λ (u : Tally). u.total) c.free, c.within))

  pub held_few : (h.count ≤ 16384) × (h.total ≤ 16384)
  held_few = (omega (arith, ap (λ (u : Tally). u.count) c.held, c.within), omega (arith, ap (λ (u : Tally). u.total) c.held, c.within))

  pub free_end : xs ≡ [] → (f ≡ tally_of (free_sizes (decode ws))) × Small f
  unfolding free_sizes
  free_end e =
      let q : f ≡ tally_of (free_sizes (decode ws)) = sym (plus_end f) ∙ sym (ap (λ (s : List Placed). plus f (tally_of (frees s))) e) ∙ c.free in
      (q, rw q (record { largest = omega (arith, c.within); total = omega (arith, c.within) }))

  pub held_end : xs ≡ [] → (h ≡ tally_of (held_sizes (decode ws))) × Small h
  unfolding held_sizes
  held_end e =
      let q : h ≡ tally_of (held_sizes (decode ws)) = sym (plus_end h) ∙ sym (ap (λ (s : List Placed). plus h (tally_of (helds s))) e) ∙ c.held in
      (q, rw q (record { largest = omega (arith, c.within); total = omega (arith, c.within) }))

  module _ (x : Placed) (ys : List Placed) (e : xs ≡ x ∷ ys) where
    pub pages_small : x.pages ≤ 16384
    pages_small = let w : EndBy 16384 (x ∷ ys) = rw e at c.ends in omega (arith, w.0)

    all_free : plus f (tally_of (frees (x ∷ ys))) ≡ tally_of (free_sizes (decode ws))
    all_free = rw e at c.free

    all_held : plus h (tally_of (helds (x ∷ ys))) ≡ tally_of (held_sizes (decode ws))
    all_held = rw e at c.held

    pub count_free : x.held ≡ false → (u : Tally) → u ≡ with_segment f x.pages → Counting ws ys u h
    unfolding free_sizes held_sizes
    count_free k u q =
        rw q (record { ends = (rw e at c.ends).1; within = c.within; free = sym (plus_more f x.pages (frees ys)) ∙ rw k at all_free; held = rw k at all_held })

    pub count_held : x.held ≡ true → (u : Tally) → u ≡ with_segment h x.pages → Counting ws ys f u
    unfolding free_sizes held_sizes
    count_held k u q =
        rw q (record { ends = (rw e at c.ends).1; within = c.within; free = rw k at all_free; held = sym (plus_more h x.pages (helds ys)) ∙ rw k at all_held })

pub ruleset counting = (free_few, held_few, free_end, held_end, pages_small, count_free, count_held)

-- pages in bytes
pub bytes_fit : (n page : ℕ) → n ≤ 16384 → page ≤ 4096 → Fits w32 (n * page)
bytes_fit n page h k = Fits-under w32 (n * page) 134217728 (lt_of_le_of_lt (mul-le-mul {n₁ = n} {m₁ = page} h k) (omega arith)) tt

-- The part of the memory that is a region's map, lent to the stores and put back: what they do by the places of words is what the rules say
-- by pages and addresses. For regions of every kind, by what a kind keeps. Assumes nothing.
use Rattle.std.specs.Prelude.{Option, None, Some}
use Prim.Native.Nat.{ℕ, ◌+◌, ◌-◌, ◌*◌, ◌/◌, ◌≤◌}
use mathlib.Core.Path.{◌≡◌, sym, ap, ◌∙◌}
use mathlib.Core.Bool.{Bool, true, false, cond}
use mathlib.Core.List.{List}
use native.Mathlib.Omega.{arith}
use native.Mathlib.Nat.{add-zero, le-mul_of_pos_right}
use lib.ListN.{length}
use mir.Syntax.{w32, w64}
use mir.Val.{Fits}
use borrow.Author.Rules.{Fits-under}
use Rattle.arith.specs.declared.Layout.{Layout}
use Rattle.manager.specs.Map.{Segment, decode, draw, sound_map, total}
use Rattle.manager.specs.Kind.{allocate, held_from}
use Rattle.manager.proofs.Laws.Kinds.{Stands, keeps}
use Rattle.manager.proofs.Laws.Paged.{spot}
use Rattle.manager.proofs.Laws.Shift.{held_shift}
use Rattle.manager.specs.Region.{kind, layout_of, pages_of, first_page_of, address_of, starts_page, page_at, words_at, map_words, segments, with_segments, held_at, can_have, placed}
use Rattle.manager.proofs.Laws.Region.{lent, put_back, lent_in, lent_fits, lent_bytes, put_back_lem}
use Rattle.manager.specs.Sound.{Sited}
use Rattle.manager.proofs.Laws.Sound.{map_long, pages_few, address_in_lem, sited_with, sized_segments, proper_segments, total_segments, same_segments}
use Rattle.manager.specs.declared.Region.{Region}
use Rattle.manager.specs.declared.Need.{Need}
use Rattle.map.proofs.Part.{words_whole}
use Rattle.segments.specs.Lending.{Changes, Takes}

-- ---- a page, and the place of its word

-- where a segment is held, its page is not before the first one
module _ (first p i : ℕ) (s : List Segment) (h : 1 ≤ held_from p first s) (ei : i ≡ p - first) where
  page_is : first + i ≡ p
  page_is = omega (arith, (spot p first s h).page)

  held_word_lem : held_from i 0 s ≡ held_from p first s
  held_word_lem = sym (rw (page_is, add-zero first) at (held_shift first i 0 s))

-- what is held at an address is held at its page
held_page : (m : List ℕ) (r : Region) (a : ℕ) → 1 ≤ held_at m r a → 1 ≤ held_from (page_at r a) (first_page_of r) (segments m r)
held_page m r a h = go (starts_page r a) h
  where
    go : (b : Bool) → 1 ≤ cond b (held_from (page_at r a) (first_page_of r) (segments m r)) 0 → 1 ≤ held_from (page_at r a) (first_page_of r) (segments m r)
    go true x = x
    go false x = absurd (omega arith)

-- ---- what is placed in a region

module _ (m : List ℕ) (r : Region) (s : Sited m r) (n : Need) (o : 1 ≤ n.pages) where
  placed_in : (p : ℕ) → placed m r n ≡ Some p → p + n.pages ≤ first_page_of r + pages_of r
  placed_in p e = omega (arith, ((keeps r.order).place_in n (first_page_of r) (segments m r) p o e).1, total_segments m r s)

  placed_address : (p : ℕ) → placed m r n ≡ Some p → address_of r p ≤ 65536
  placed_address p e = omega (arith, address_in_lem m r s.laid p n.pages (placed_in p e))

pub taken_address : (m : List ℕ) (r : Region) (n : Need) (out : List ℕ) (q : Option ℕ) → Takes r n m out q → (p : ℕ) → q ≡ Some p → address_of r p ≤ 65536
taken_address m r n out q t p e = t.within p e

-- nothing is taken where nothing is found
pub none_taken : (m : List ℕ) (r : Region) → Sited m r → (n : Need) (out : List ℕ) (q : Option ℕ) → Takes r n m out q → q ≡ None → out ≡ m
none_taken m r s n out q t e =
    let z : placed m r n ≡ None = sym t.place ∙ e in
    t.memory ∙ ap (with_segments m r) (rw z) ∙ same_segments m r s

-- ---- the words of the map: sound, few, and at a place of theirs what the region has at an address

module _ (m : List ℕ) (r : Region) (s : Sited m r) (l : Layout) (el : l ≡ layout_of r) (ws : List ℕ) (ew : ws ≡ words_at m l) where
  words_are : ws ≡ map_words m r
  words_are = ew ∙ rw el

  first_is : l.first ≡ first_page_of r
  first_is = rw el

  pub words_sound : sound_map (kind r).proper ws ≡ true
  words_sound = rw words_are s.sound

  pub words_few : length ws ≤ 16384
  words_few = rw words_are (omega (arith, map_long m r s.laid, pages_few m r s.laid))

  module _ (a : ℕ) (h : 1 ≤ held_at m r a) (i : ℕ) (ei : i ≡ a / r.page - l.first) where
    index_is : i ≡ page_at r a - first_page_of r
    index_is = rw first_is at ei

    page_of : first_page_of r + i ≡ page_at r a
    page_of = page_is (first_page_of r) (page_at r a) i (segments m r) (held_page m r a h) index_is

    pub words_held : 1 ≤ held_from i 0 (decode ws)
    words_held = rw (words_are, held_word_lem (first_page_of r) (page_at r a) i (segments m r) (held_page m r a h) index_is) (held_page m r a h)

    have_words : (k : ℕ) → (kind r).can_have i k 0 (decode ws) ≡ can_have m r a k
    have_words k =
        rw words_are (sym (rw (page_of, add-zero (first_page_of r)) at ((keeps r.order).have_shift (first_page_of r) i k 0 (segments m r))))

    pub words_have : (k : ℕ) (b : Bool) → b ≡ (kind r).can_have i k 0 (decode ws) → b ≡ can_have m r a k
    words_have k b e = e ∙ have_words k

    pub words_can : (k : ℕ) → can_have m r a k ≡ true → (kind r).can_have i k 0 (decode ws) ≡ true
    words_can k e = have_words k ∙ e

    words_change : (k : ℕ) → (kind r).change i k 0 (decode ws) ≡ (kind r).change (page_at r a) k (first_page_of r) (segments m r)
    words_change k =
        rw words_are (sym (rw (page_of, add-zero (first_page_of r)) at ((keeps r.order).change_shift (first_page_of r) i k 0 (segments m r))))

pub ruleset reading = (words_sound, words_few, words_held, words_have)

-- what a segment can have is no more than the region's pages
module _ (m : List ℕ) (r : Region) (s : Sited m r) (a k : ℕ) where
  pub have_fits : can_have m r a k ≡ true → Fits w32 k
  have_fits e =
      let f = (keeps r.order).have_few (page_at r a) k (first_page_of r) (segments m r) e in
      Fits-under w32 k 16385 (omega (arith, total_segments m r s, pages_few m r s.laid)) tt

-- ---- those words lent, and others put back

module _ (m : List ℕ) (r : Region) (s : Sited m r) (l : Layout) (el : l ≡ layout_of r) where
  abbrev part : List ℕ
  part = lent l m

  abbrev after : List ℕ → List ℕ
  after ws = put_back l m ws

  pub part_in : l.map + l.pages ≤ length m
  part_in = lent_in r l el m s.laid

  pub part_fits : Fits w64 (l.map + l.pages)
  part_fits = lent_fits r l el m s.laid

  pub start_fits : Fits w64 (l.map * 4)
  start_fits = lent_bytes r l el m s.laid

  -- the number of the first page is no more than its address
  pub first_low : l.first ≤ 65536
  first_low =
      rw (first_is m r s l el part (words_whole m l))
      (omega (arith, address_in_lem m r s.laid (first_page_of r) (pages_of r) (omega arith), le-mul_of_pos_right {m = r.page} (first_page_of r) (omega (arith, s.laid.page_low))))

  -- its segments stand as its kind has them
  stands : Stands (kind r) (segments m r)
  stands = record { sized = sized_segments m r s; proper = proper_segments m r s }

  -- segments drawn there
  module _ (t : List Segment) (e : total t ≡ pages_of r) (w : Stands (kind r) t) (ws : List ℕ) (x : ws ≡ draw t) where
    drawn : after ws ≡ with_segments m r t
    drawn = ap after x ∙ put_back_lem r l el m s.laid t e

    drawn_sited : Sited (after ws) r
    drawn_sited = rw drawn (sited_with m r s.laid t e w.sized w.proper)

  pub takes : (n : Need) → 1 ≤ n.pages → (q : Option ℕ) (ws : List ℕ)
      → (q ≡ (kind r).place n l.first (decode part)) × (ws ≡ draw (allocate (kind r) n l.first (decode part)))
      → Takes r n m (after ws) q
  takes n o q ws h =
      let first = first_page_of r in
      let is = words_are m r s l el part (words_whole m l) in
      let t = allocate (kind r) n first (segments m r) in
      let x : ws ≡ draw t = h.1 ∙ rw (is, first_is m r s l el part (words_whole m l)) in
      let c = (keeps r.order).total_take n first (segments m r) ∙ total_segments m r s in
      let w = (keeps r.order).stands_take n first (segments m r) o stands in
      let place : q ≡ placed m r n = h.0 ∙ rw (is, first_is m r s l el part (words_whole m l)) in
      record {
        place = place;
        within = λ p e. placed_address m r s n o p (sym place ∙ e);
        memory = drawn t c w ws x;
        sited = drawn_sited t c w ws x;
      }

  module _ (a : ℕ) (h : 1 ≤ held_at m r a) (i : ℕ) (ei : i ≡ a / r.page - l.first) where
    put_change : (k : ℕ) → total ((kind r).change (page_at r a) k (first_page_of r) (segments m r)) ≡ total (segments m r)
        → Stands (kind r) ((kind r).change (page_at r a) k (first_page_of r) (segments m r))
        → (ws : List ℕ) → ws ≡ draw ((kind r).change i k 0 (decode part)) → Changes r a k m (after ws)
    put_change k e w ws ew =
        let t = (kind r).change (page_at r a) k (first_page_of r) (segments m r) in
        let x : ws ≡ draw t = ew ∙ ap draw (words_change m r s l el part (words_whole m l) a h i ei k) in
        let n = e ∙ total_segments m r s in
        record { memory = drawn t n w ws x; sited = drawn_sited t n w ws x }

    pub changes : (k : ℕ) → 1 ≤ k → can_have m r a k ≡ true → (ws : List ℕ) → ws ≡ draw ((kind r).change i k 0 (decode part)) → Changes r a k m (after ws)
    changes k o b =
        put_change k ((keeps r.order).total_change (page_at r a) k (first_page_of r) (segments m r) b)
        ((keeps r.order).stands_change (page_at r a) k (first_page_of r) (segments m r) o stands)

    pub releases : (ws : List ℕ) → ws ≡ draw ((kind r).change i 0 0 (decode part)) → Changes r a 0 m (after ws)
    releases =
        put_change 0 ((keeps r.order).total_return (page_at r a) (first_page_of r) (segments m r))
        ((keeps r.order).stands_return (page_at r a) (first_page_of r) (segments m r) (held_page m r a h) stands)

pub ruleset drawing = (words_whole, words_sound, words_few, words_held, words_can, first_low, have_fits, part_in, part_fits, start_fits, takes, changes, releases)

-- Which words a part of the picture rests on: a region's map words, and the link words of a partition's chained buffers. Where these
-- stay as they are, so does the picture, whatever happens elsewhere. The words lie inside the object's area. Assumes nothing.
use mathlib.Core.Path.{◌≡◌, refl, sym, ap, ◌∙◌, subst}
use mathlib.Core.Bool.{Bool, true, not}
use mathlib.Core.List.{List, [], ◌∷◌, ◌++◌, append_assoc}
use mathlib.Core.Logic.{◌⊎◌, inl, inr, ⊎_elim}
use Prim.Native.Nat.{ℕ, suc, ◌+◌, ◌*◌, ◌/◌, ◌%◌, ◌≤◌, ◌<◌}
use native.Mathlib.Nat.{mul-le-mul_right, add-mul}
use native.Mathlib.Omega.{arith}
use lib.ListN.{length, get_or, take, drop, set, length-take, length-drop, length-set}
use lib.Seq.{sets, sets-eq, get_or-set_other, take_at, drop_at, length-take-le}
use lib.Dec.{eqb, leb}
use borrow.Author.Tests.{eqb-false, leb-true, ne_eqb, le-leb, not-true}
use Rattle.arith.proofs.Laws.Round.{round_multiple}
use Rattle.arith.specs.Layout.{map_start, page_count}
use Rattle.arith.proofs.Laws.Layout.{count_allowed, count_map, count_end}
use Rattle.manager.proofs.Laws.Lists.{and_first, and_second}
use Rattle.manager.proofs.Laws.Words.{map_same, map_within}
use Rattle.manager.specs.Region.{kind_of, pages_of, map_at, map_words}
use Rattle.manager.specs.Partition.{is_buffer, chain}
use Rattle.manager.proofs.Laws.Distinct.{On, same_or_not, on_in}
use Rattle.manager.proofs.Laws.Partition.Buffers.{Buffer, buffer_of, Placed, placed, apart}
use Rattle.manager.proofs.Laws.Partition.Chain.{linked_on}
use Rattle.manager.proofs.Laws.Partition.Links.{Same, follow_same, linked_same}
use Rattle.manager.proofs.Laws.Partition.Live.{live_laid, live_size, live_chain, live_made}
use Rattle.manager.specs.Sound.{inside, Shaped, LaidPartition}
use Rattle.manager.specs.declared.Region.{Region}
use Rattle.manager.specs.declared.Partition.{Partition}
use Rattle.manager.specs.Lists.{In}
use Rattle.trace.specs.Loans.{behind}
use Rattle.trace.specs.Receipts.{RegionEntry, PartitionEntry, unit, pages_in, span_in, address_in}
use Rattle.trace.proofs.Invariant.{Inside, Only, region_for, RegionIs, PartitionIs, OnlyMap}

-- ---- words inside an area, and changes of nothing else

pub inside_wider : (a n b k w : ℕ) → b ≤ a → a + n ≤ b + k → Inside a n w → Inside b k w
inside_wider a n b k w l h i = omega arith

pub only_refl : (a n : ℕ) (m : List ℕ) → Only a n m m
only_refl a n m = record { size = refl; same = λ w h. refl }

pub only_trans : (a n : ℕ) (m m' m'' : List ℕ) → Only a n m m' → Only a n m' m'' → Only a n m m''
only_trans a n m m' m'' p q = record { size = q.size ∙ p.size; same = λ w h. q.same w h ∙ p.same w h }

-- one word stored, and a run of words
pub only_set : (a n : ℕ) (m : List ℕ) (i v : ℕ) → Inside a n i → Only a n m (set m i v)
only_set a n m i v h =
    record {
      size = length-set m i v;
      same = λ w o. get_or-set_other m i w v 0 (λ e. o (subst (λ (k : ℕ). Inside a n k) (sym e) h));
    }

pub only_sets : (a n : ℕ) (m : List ℕ) (i : ℕ) (ws : List ℕ) → a ≤ 4 * i → 4 * (i + length ws) ≤ a + n → Only a n m (sets m i ws)
only_sets a n m i [] l h = only_refl a n m
only_sets a n m i (w ∷ ws) l h =
    only_trans a n m (set m i w) (sets (set m i w) (suc i) ws)
    (only_set a n m i w (record { low = l; high = omega arith }))
    (only_sets a n (set m i w) (suc i) ws (omega arith) (omega arith))

-- words stored are the words that stand there
pub part_stored : (m : List ℕ) (b : ℕ) (ws : List ℕ) (n : ℕ) → length ws ≡ n → b + n ≤ length m → take n (drop b (sets m b ws)) ≡ ws
part_stored m b ws n e h =
    let u : b + length ws ≤ length m = omega arith in
    ap (λ (l : List ℕ). take n (drop b l)) (sets-eq ws m b u ∙ append_assoc (take b m) ws (drop (b + length ws) m))
    ∙ ap (take n) (drop_at (take b m) (ws ++ drop (b + length ws) m) b (length-take-le b m (omega arith)))
    ∙ take_at ws (drop (b + length ws) m) n e

-- ---- a region: its map words

-- the place of a map's first word is its start
pub map_at_lem : (start : ℕ) → 4 * (map_start start / 4) ≡ map_start start
map_at_lem start = omega arith

-- a word of the map lies inside the area
module _ (allowed : ℕ → Bool) (start bytes page : ℕ) (hp : 0 < page) (some : 1 ≤ page_count allowed start bytes page) (w : ℕ) where
  pub map_inside : map_start start / 4 ≤ w → w < map_start start / 4 + page_count allowed start bytes page → Inside start bytes w
  map_inside l h = let x = map_within allowed start bytes page hp some w l h in record { low = x.0; high = x.1 }

-- the map lies in a memory in which the area does
pub map_fits : (allowed : ℕ → Bool) (start bytes page n : ℕ) → 0 < page → 1 ≤ page_count allowed start bytes page → start + bytes ≤ 4 * n
    → map_start start / 4 + page_count allowed start bytes page ≤ n
map_fits allowed start bytes page n hp some h = omega (arith, map_at_lem start, count_map allowed start bytes page hp, count_end allowed start bytes page hp some)

-- the page size of an entry: whole, and in bounds
pub unit_least : (e : RegionEntry) → 1 ≤ e.page → 8 ≤ unit e
unit_least e h = omega arith

pub unit_most : (e : RegionEntry) → e.page ≤ 4096 → unit e ≤ 4096
unit_most e h = omega arith

pub unit_whole : (e : RegionEntry) → unit e % 8 ≡ 0
unit_whole e = round_multiple e.page 8

-- an area inside the memory
pub record Fits (m : List ℕ) (start bytes : ℕ) : Type 0 where
  pub some_start : ¬ (start ≡ 0)
  pub upto : start + bytes ≤ 4 * length m

pub inside_parts : (m : List ℕ) (start bytes : ℕ) → inside m start bytes ≡ true → Fits m start bytes
inside_parts m start bytes e =
    record {
      some_start = eqb-false start 0 (not-true (eqb start 0) (and_first (not (eqb start 0)) (leb (start + bytes) (4 * length m)) e));
      upto = leb-true (start + bytes) (4 * length m) (and_second (not (eqb start 0)) (leb (start + bytes) (4 * length m)) e);
    }

pub parts_inside : (m : List ℕ) (start bytes : ℕ) → Fits m start bytes → inside m start bytes ≡ true
parts_inside m start bytes p = rw (ne_eqb start 0 p.some_start, le-leb (start + bytes) (4 * length m) p.upto)

pub inside_same : (m m' : List ℕ) (start bytes : ℕ) → length m' ≡ length m → inside m start bytes ≡ true → inside m' start bytes ≡ true
inside_same m m' start bytes e h = rw e h

-- a map that is drawn is the map
pub map_stored : (m : List ℕ) (r : Region) (ws : List ℕ) → length ws ≡ pages_of r → map_at r + pages_of r ≤ length m
    → map_words (sets m (map_at r) ws) r ≡ ws
map_stored m r ws e h = part_stored m (map_at r) ws (pages_of r) e h

-- and has a word for each page
pub map_length : (m : List ℕ) (r : Region) → map_at r + pages_of r ≤ length m → length (map_words m r) ≡ pages_of r
map_length m r h = omega (arith, length-take (pages_of r) (drop (map_at r) m), length-drop (map_at r) m)

-- drawing a map changes only its words
pub map_words_only : (m : List ℕ) (r : Region) (ws : List ℕ) → length ws ≡ pages_of r → Only (4 * map_at r) (4 * pages_of r) m (sets m (map_at r) ws)
map_words_only m r ws e = only_sets (4 * map_at r) (4 * pages_of r) m (map_at r) ws (omega arith) (omega arith)

-- the pages of an entry are as many as its kind allows
pub pages_allowed : (e : RegionEntry) → 1 ≤ pages_in e → (kind_of e.order).allowed (pages_in e) ≡ true
pages_allowed e h = count_allowed (kind_of e.order).allowed e.start e.bytes (unit e) h

-- what a live region's entry says of its numbers
module _ (m : List ℕ) (e : RegionEntry) (is : RegionIs m e) where
  pub region_unit : 0 < unit e
  region_unit = omega (arith, unit_least e is.page_some)

  pub region_inside : (w : ℕ) → map_at (region_for e) ≤ w → w < map_at (region_for e) + pages_in e → Inside e.start e.bytes w
  region_inside w l h = map_inside (kind_of e.order).allowed e.start e.bytes (unit e) region_unit is.some_page w l h

  -- its pages lie in its area, behind the words of its map
  pub pages_from : (p : ℕ) → (span_in e).first ≤ p → map_start e.start + 4 * pages_in e ≤ address_in e p
  pages_from p h = omega (arith, count_map (kind_of e.order).allowed e.start e.bytes (unit e) region_unit, mul-le-mul_right (unit e) h)

  pub pages_upto : (p : ℕ) → p ≤ behind (span_in e) → address_in e p ≤ e.start + e.bytes
  pages_upto p h =
      omega (arith, count_end (kind_of e.order).allowed e.start e.bytes (unit e) region_unit is.some_page, mul-le-mul_right (unit e) h, add-mul (span_in e).first (pages_in e) (unit e))

  -- a change of its map is one of its area
  pub map_area : (m₁ m' : List ℕ) → OnlyMap e m₁ m' → Only e.start e.bytes m₁ m'
  map_area m₁ m' o =
      record {
        size = o.size;
        same = λ w n. o.same w (λ (i : Inside (4 * map_at (region_for e)) (4 * pages_in e) w).
            n (region_inside w (omega (arith, i.low)) (omega (arith, i.high))));
      }

  -- the map lies in the memory
  pub region_fits : map_at (region_for e) + pages_in e ≤ length m
  region_fits = map_fits (kind_of e.order).allowed e.start e.bytes (unit e) (length m) region_unit is.some_page (inside_parts m e.start e.bytes is.inside).upto

  -- A LIVE REGION RESTS ON ITS MAP WORDS
  pub region_same : (m' : List ℕ) → length m' ≡ length m
      → ((w : ℕ) → map_at (region_for e) ≤ w → w < map_at (region_for e) + pages_in e → get_or m' w 0 ≡ get_or m w 0) → RegionIs m' e
  region_same m' s h =
      record {
        named = is.named;
        inside = inside_same m m' e.start e.bytes s is.inside;
        page_some = is.page_some;
        page_most = is.page_most;
        some_page = is.some_page;
        placed = is.placed;
        fits = is.fits;
        map = map_same m m' (region_for e) s h ∙ is.map;
      }

-- ---- a partition: the link words of its chained buffers

-- a multiple of whole words is of whole words
pub whole_times : (k n : ℕ) → n % 4 ≡ 0 → k * n % 4 ≡ 0
whole_times k n z =
    let e : n ≡ 4 * (n / 4) = omega arith in
    let f : k * n ≡ 4 * (k * (n / 4)) = ap (λ (x : ℕ). k * x) e ∙ omega arith in
    omega arith

-- what a live partition's entry says of its buffers
module _ (m : List ℕ) (p : Partition) (e : PartitionEntry) (is : PartitionIs m p e) where
  pub partition_laid : LaidPartition m p
  partition_laid = live_laid m p is.sound

  pub partition_shaped : Shaped p
  partition_shaped = partition_laid.shaped

  pub buffer_is : (a : ℕ) → is_buffer p a ≡ true → Buffer p a
  buffer_is a h = buffer_of p partition_shaped a h

  pub buffer_lies : (a : ℕ) → is_buffer p a ≡ true → Placed p a
  buffer_lies a h = placed p partition_shaped a (buffer_is a h)

  -- a buffer on the chain is a buffer
  pub chained_buffer : (a : ℕ) → In a e.unlent → is_buffer p a ≡ true
  chained_buffer a w =
      linked_on m p p.free 0 p.front a (live_chain m p is.sound) ((on_in a (chain m p)).1 (rw (← is.chained) at w))

  -- two buffers share no byte
  pub buffers_apart : (a b : ℕ) → is_buffer p a ≡ true → is_buffer p b ≡ true → (a ≡ b) ⊎ ((a + p.size ≤ b) ⊎ (b + p.size ≤ a))
  buffers_apart a b x y =
      ⊎_elim (λ (q : a ≡ b). inl q) (λ (q : a ≡ b → ⊥). inr (apart p partition_shaped a b (buffer_is a x) (buffer_is b y) q)) (same_or_not a b)

  -- the words of a buffer lie inside the area, its link words among them
  pub buffer_inside : (a w : ℕ) → is_buffer p a ≡ true → Inside a p.size w → Inside p.start p.length w
  buffer_inside a w h i =
      let b = buffer_lies a h in
      inside_wider a p.size p.start p.length w b.low b.high i

  pub link_next : (a : ℕ) → is_buffer p a ≡ true → Inside a p.size (a / 4)
  link_next a h = omega (arith, (buffer_lies a h).aligned, partition_shaped.big)

  pub link_before : (a : ℕ) → is_buffer p a ≡ true → Inside a p.size (a / 4 + 1)
  link_before a h = omega (arith, (buffer_lies a h).aligned, partition_shaped.big)

  -- A LIVE PARTITION RESTS ON THE LINK WORDS OF ITS CHAINED BUFFERS
  pub partition_same : (m' : List ℕ) → length m' ≡ length m → ((a : ℕ) → In a e.unlent → Same m m' a) → PartitionIs m' p e
  partition_same m' s h =
      let h' : (a : ℕ) → On a (chain m p) → Same m m' a = λ a w. h a (rw is.chained at ((on_in a (chain m p)).0 w)) in
      record {
        named = is.named;
        name = is.name;
        start = is.start;
        bytes = is.bytes;
        size = is.size;
        sound =
            live_made m' p (record { shaped = partition_shaped; inside = rw s partition_laid.inside }) (live_size m p is.sound)
            (linked_same m m' p p (λ x. refl) refl p.free 0 p.front h' (live_chain m p is.sound));
        chained = follow_same m m' p.free p.front (λ x w. (h' x w).next) ∙ is.chained;
        once = is.once;
        buffer = is.buffer;
        either = is.either;
        apart = is.apart;
        counted = is.counted;
      }

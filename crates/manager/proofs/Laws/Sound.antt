-- What sound books say of a live region: its page size, its map within the memory and its pages below 65,536; and that another sound
-- map drawn in its place leaves all that so. Assumes nothing.
use Prim.Native.Nat.{ℕ, ◌+◌, ◌*◌, ◌≤◌, ◌<◌}
use mathlib.Core.Path.{◌≡◌, refl, sym, ap, ◌∙◌}
use mathlib.Core.Bool.{true, false, not, ◌&&◌}
use mathlib.Core.List.{List, ◌++◌, append_assoc}
use mathlib.Core.Logic.{⊎_elim}
use native.Mathlib.Omega.{arith}
use native.Mathlib.Nat.{mul-le-mul_right, add-mul}
use lib.ListN.{length, get_or, take, drop, length-drop, take-append-drop}
use lib.Seq.{drop-drop, length-sets, sets-eq, take_at, drop_at, length-take-le}
use lib.Dec.{eqb, leb}
use borrow.Author.Tests.{eq-eqb, ne_eqb, eqb-false, leb-true}
use Rattle.arith.proofs.Laws.Layout.{count_map, count_end}
use Rattle.manager.specs.Record.{slots, most_words, generations, no_region, region_of, slot_of}
use Rattle.manager.specs.Lists.{every}
use Rattle.manager.proofs.Laws.Lists.{and_first, and_second, every_at}
use Rattle.manager.specs.Regions.{region_generation}
use Rattle.manager.proofs.Laws.Distinct.{same_or_not}
use Rattle.manager.proofs.Laws.Ids.{Live, live_object, live_within}
use Rattle.manager.specs.Map.{Segment, draw, tiled, sound_map, total}
use Rattle.manager.proofs.Laws.Map.{Sized, redraw, sound_drawn, sound_tiled, sound_proper, length_draw, total_decoded, sized_decoded}
use Rattle.manager.specs.Region.{dead, kind, pages_of, first_page_of, map_at, map_words, segments, with_segments, address_of}
use Rattle.manager.specs.Sound.{Laid, Sited, sound, sound_length, inside, sound_page, sound_generation, empty_region, live_region, sound_region, sound_partition, sound_names, sound_areas, sound_queue}
use Rattle.manager.specs.declared.Manager.{Manager}
use Rattle.manager.specs.declared.Region.{Region}

-- the clauses of sound books
module _ (m : List ℕ) (d : Manager) (ok : sound m d ≡ true) where
  tail : (every (sound_region m) d.regions && (every (sound_partition m) d.partitions && (sound_names d && (sound_areas d && sound_queue m d)))) ≡ true
  unfolding sound
  tail = and_second (sound_length m) _ ok

  pub sound_length_lem : sound_length m ≡ true
  unfolding sound
  sound_length_lem = and_first (sound_length m) _ ok

  pub sound_words : length m ≤ 16384
  sound_words = leb-true (length m) most_words (and_second (leb 1 (length m)) _ sound_length_lem)

  pub sound_regions : every (sound_region m) d.regions ≡ true
  sound_regions = and_first (every (sound_region m) d.regions) _ tail

  pub sound_partitions : every (sound_partition m) d.partitions ≡ true
  sound_partitions = and_first (every (sound_partition m) d.partitions) _ (and_second (every (sound_region m) d.regions) _ tail)

  records : (sound_names d && (sound_areas d && sound_queue m d)) ≡ true
  records = and_second (every (sound_partition m) d.partitions) _ (and_second (every (sound_region m) d.regions) _ tail)

  pub sound_names_lem : sound_names d ≡ true
  sound_names_lem = and_first (sound_names d) _ records

  pub sound_areas_lem : sound_areas d ≡ true
  sound_areas_lem = and_first (sound_areas d) _ (and_second (sound_names d) _ records)

  pub sound_queue_lem : sound_queue m d ≡ true
  sound_queue_lem = and_second (sound_areas d) _ (and_second (sound_names d) _ records)

-- the generation of a live slot
pub generation_live : (name g : ℕ) → sound_generation name g ≡ true → ¬ (name ≡ 0) → g < generations
generation_live name g e n = let h : g ≤ 65535 = leb-true g 65535 (rw (ne_eqb name 0 n) at e) in omega arith

-- and of any
pub generation_most : (name g : ℕ) → sound_generation name g ≡ true → g ≤ generations
generation_most name g e =
    ⊎_elim (λ (z : name ≡ 0). leb-true _ _ (rw (eq-eqb name 0 z) at e)) (λ (n : name ≡ 0 → ⊥). let h = generation_live name g e n in omega arith) (same_or_not name 0)

-- of one slot
module _ (m : List ℕ) (r : Region) (e : sound_region m r ≡ true) where
  pub region_generation_lem : sound_generation r.name r.generation ≡ true
  unfolding sound_region
  region_generation_lem = and_first (sound_generation r.name r.generation) _ e

  pub live_of : dead r ≡ false → live_region m r ≡ true
  unfolding sound_region
  live_of f = rw f at (and_second (sound_generation r.name r.generation) _ e)

  pub empty_of : dead r ≡ true → empty_region r ≡ true
  unfolding sound_region
  empty_of f = rw f at (and_second (sound_generation r.name r.generation) _ e)

pub sited_of : (m : List ℕ) (r : Region) → length m ≤ 16384 → live_region m r ≡ true → Sited m r
unfolding live_region
sited_of m r w e =
    let a = and_first (inside m r.start r.length) _ e in
    let b = and_second (inside m r.start r.length) _ e in
    let c = and_first (sound_page r.page) _ b in
    let f = and_second (sound_page r.page) _ b in
    record {
      laid = record {
        words = w;
        inside = leb-true (r.start + r.length) (4 * length m) (and_second (not (eqb r.start 0)) _ a);
        page_low = leb-true 8 r.page (and_first (leb 8 r.page) _ c);
        page_high = leb-true r.page 4096 (and_first (leb r.page 4096) _ (and_second (leb 8 r.page) _ c));
        some = leb-true 1 (pages_of r) (and_first (leb 1 (pages_of r)) _ f);
      };
      sound = and_second (leb 1 (pages_of r)) _ f;
    }

-- the generations of sound books
pub region_most : (m : List ℕ) (d : Manager) → sound m d ≡ true → length d.regions ≡ slots → (i : ℕ) → i < slots → region_generation d i ≤ generations
region_most m d ok n i h =
    let r = get_or d.regions i no_region in
    generation_most r.name r.generation (region_generation_lem m r (every_at (sound_region m) d.regions i no_region (sound_regions m d ok) (omega arith)))

-- LIVE REGIONS of sound books
module _ (m : List ℕ) (d : Manager) (id : ℕ) (ok : sound m d ≡ true) (f : dead (region_of d id) ≡ false) where
  abbrev there : Type 0
  there = Live (λ (r : Region). r.name) (λ r. r.generation) no_region d.regions id

  is_live : there
  is_live = live_object (λ r. r.name) (λ r. r.generation) no_region d.regions refl id (eqb-false (region_of d id).name 0 f)

  pub sound_slot : sound_region m (region_of d id) ≡ true
  sound_slot =
      rw is_live.is
      (every_at (sound_region m) d.regions (slot_of id) no_region (sound_regions m d ok)
      (live_within (λ r. r.name) (λ r. r.generation) no_region d.regions refl id is_live))

  pub sited : Sited m (region_of d id)
  sited = sited_of m (region_of d id) (sound_words m d ok) (live_of m (region_of d id) sound_slot f)

pub live_sited : (m : List ℕ) (d : Manager) → sound m d ≡ true → (id : ℕ) (r : Region) → r ≡ region_of d id → (r.name ≡ 0 → ⊥) → Sited m r
live_sited m d ok id r e l = rw e (sited m d id ok (ne_eqb _ _ (λ z. l (ap (λ (x : Region). x.name) e ∙ z))))

module _ (m : List ℕ) (r : Region) (s : Laid m r) where
  -- its map lies within the memory
  pub map_in_lem : map_at r + pages_of r ≤ length m
  map_in_lem =
      let a = count_map (kind r).allowed r.start r.length r.page (omega (arith, s.page_low)) in
      let b = count_end (kind r).allowed r.start r.length r.page (omega (arith, s.page_low)) s.some in
      omega (arith, s.inside)

  pub map_long : length (map_words m r) ≡ pages_of r
  map_long = length-take-le (pages_of r) (drop (map_at r) m) (omega (arith, length-drop (map_at r) m, map_in_lem))

  pub pages_few : pages_of r ≤ 16384
  pages_few = omega (arith, map_in_lem, s.words)

  -- and so do its pages
  pub pages_end : address_of r (first_page_of r) + pages_of r * r.page ≤ 65536
  pages_end =
      let b = count_end (kind r).allowed r.start r.length r.page (omega (arith, s.page_low)) s.some in
      omega (arith, s.inside, s.words)

  pub address_in_lem : (p k : ℕ) → p + k ≤ first_page_of r + pages_of r → address_of r p + k * r.page ≤ 65536
  address_in_lem p k h = omega (arith, mul-le-mul_right r.page h, add-mul p k r.page, add-mul (first_page_of r) (pages_of r) r.page, pages_end)

  -- other segments drawn in its map
  module _ (t : List Segment) (e : total t ≡ pages_of r) where
    drawn_long : length (draw t) ≡ pages_of r
    drawn_long = length_draw t ∙ e

    pub with_is : with_segments m r t ≡ take (map_at r) m ++ (draw t ++ drop (map_at r + pages_of r) m)
    with_is =
        sets-eq (draw t) m (map_at r) (omega (arith, map_in_lem, drawn_long))
        ∙ append_assoc (take (map_at r) m) (draw t) (drop (map_at r + length (draw t)) m)
        ∙ ap (λ (n : ℕ). take (map_at r) m ++ (draw t ++ drop (map_at r + n) m)) drawn_long

    pub read_with_lem : map_words (with_segments m r t) r ≡ draw t
    read_with_lem =
        let l : length (take (map_at r) m) ≡ map_at r = length-take-le (map_at r) m (omega (arith, map_in_lem)) in
        ap (λ (w : List ℕ). map_words w r) with_is
        ∙ ap (take (pages_of r)) (drop_at (take (map_at r) m) (draw t ++ drop (map_at r + pages_of r) m) (map_at r) l)
        ∙ take_at (draw t) (drop (map_at r + pages_of r) m) (pages_of r) drawn_long

    pub length_with : length (with_segments m r t) ≡ length m
    length_with = length-sets m (map_at r) (draw t)

    module _ (w : Sized t) where
      pub sited_with : (kind r).proper t ≡ true → Sited (with_segments m r t) r
      sited_with o =
          record {
            laid = record {
              words = omega (arith, length_with, s.words);
              inside = omega (arith, length_with, s.inside);
              page_low = s.page_low;
              page_high = s.page_high;
              some = s.some;
            };
            sound = ap (sound_map (kind r).proper) read_with_lem ∙ sound_drawn (kind r).proper t w o;
          }

-- the segments of a live region
module _ (m : List ℕ) (r : Region) (s : Sited m r) where
  pub tiled_map : tiled (map_words m r) ≡ true
  tiled_map = sound_tiled (kind r).proper (map_words m r) s.sound

  pub sized_segments : Sized (segments m r)
  sized_segments = sized_decoded (map_words m r) tiled_map

  pub proper_segments : (kind r).proper (segments m r) ≡ true
  proper_segments = sound_proper (kind r).proper (map_words m r) s.sound

  pub total_segments : total (segments m r) ≡ pages_of r
  total_segments = total_decoded (map_words m r) tiled_map ∙ map_long m r s.laid

  -- drawn again, they leave the memory as it was
  pub same_segments : with_segments m r (segments m r) ≡ m
  same_segments =
      with_is m r s.laid (segments m r) total_segments
      ∙ ap (λ (w : List ℕ). take (map_at r) m ++ (w ++ drop (map_at r + pages_of r) m)) (redraw (map_words m r) tiled_map)
      ∙ ap (λ (w : List ℕ). take (map_at r) m ++ (map_words m r ++ w)) (sym (drop-drop (pages_of r) (map_at r) m))
      ∙ ap (λ (w : List ℕ). take (map_at r) m ++ w) (take-append-drop (pages_of r) (drop (map_at r) m))
      ∙ take-append-drop (map_at r) m

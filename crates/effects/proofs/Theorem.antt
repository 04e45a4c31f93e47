-- DEMAND 1, of the definitions: what each directive writes, by its action alone, and a case for each. Assumes nothing.
use Rattle.std.specs.Prelude.{Option, None, Some}
use mathlib.Core.Path.{◌≡◌, refl, sym, ◌∙◌, subst, ap}
use mathlib.Core.Bool.{true, false, cond, false≢true}
use mathlib.Core.List.{List, [], ◌∷◌}
use mathlib.Core.Logic.{inl, inr}
use Prim.Native.Nat.{ℕ, ◌*◌, ◌+◌, ◌/◌, ◌%◌, ◌<◌}
use native.Mathlib.Omega.{arith}
use lib.Dec.{leb, eqb}
use lib.ListN.{length}
use borrow.Author.Tests.{leb-false, eqb-true, eqb-false, ltb-false, not-false}
use Rattle.manager.specs.Lists.{every, any}
use Rattle.manager.specs.Record.{slots, no_region, region_of, id_of, with_region, no_partition, slot_of, generation_of, partition_of, with_partition}
use Rattle.manager.specs.Result.{Result, done, replied}
use Rattle.manager.specs.Map.{total}
use Rattle.manager.specs.Kind.{allocate, on_place}
use Rattle.manager.specs.Paged.{free+}
use Rattle.manager.proofs.Laws.Paged.{total_free}
use Rattle.manager.proofs.Laws.Kinds.{keeps}
use Rattle.manager.specs.Queue.{enqueue, leaving}
use Rattle.manager.proofs.Laws.Appended.{by_case, some_append}
use Rattle.manager.specs.Region.{kind, can_have, dead, pages_of, first_page_of, page_at, address_of, segments, with_segments, held_at, pages_asked, need_of, placed, taken}
use Rattle.manager.specs.Serve.{serve, from_served}
use Rattle.manager.specs.Sound.{sound, LaidPartition}
use Rattle.manager.proofs.Laws.Sound.{sited}
use Rattle.manager.specs.Regions.{unspent_region, region_generation, new_region, unplaced, create_region, ident_region, delete_region, get_segment, return_segment, segment_size, resize_segment, region_information, tick}
use Rattle.manager.specs.declared.Manager.{Manager}
use Rattle.manager.specs.declared.Region.{Region}
use Rattle.manager.specs.declared.Waiter.{Waiter}
use Rattle.manager.specs.declared.Order.{Order}
use Rattle.manager.specs.declared.Need.{Need}
use Rattle.manager.specs.declared.Wait.{Wait}
use Rattle.manager.specs.declared.Wait.TheVariants.{No, Yes}
use Rattle.manager.specs.declared.Call.TheVariants.{CreateRegion, IdentRegion, DeleteRegion, GetSegment, ReturnSegment, SegmentSize, ResizeSegment, RegionInformation, Tick, CreatePartition, IdentPartition, DeletePartition, GetBuffer, ReturnBuffer}
use Rattle.manager.specs.declared.Status.TheVariants.{Unsatisfied, InternalError, Waiting}
use Rattle.manager.proofs.Laws.Distinct.{on_in, on_head}
use Rattle.manager.proofs.Laws.Ids.{id_back, live_object, live_within, put_there}
use Rattle.manager.proofs.Laws.Result.{Passed}
use Rattle.manager.specs.Partition.{dead_partition, buffers, buffer_at, is_buffer, is_free, chain, sound_chain, link_all, after_get, after_return, returned}
use Rattle.manager.proofs.Laws.Partition.Buffers.{buffer_at_lem, of_buffer}
use Rattle.manager.proofs.Laws.Partition.Created.{Created, all_clear, all_length, create_sound}
use Rattle.manager.proofs.Laws.Partition.Repeats.{all_free}
use Rattle.manager.proofs.Laws.Partition.Live.{new_laid, new_created, live_laid, live_chain, sound_live}
use Rattle.manager.proofs.Laws.Partition.Area.{get_only, get_length, return_only, return_length}
use Rattle.manager.proofs.Laws.Partition.Links.{return_chain}
use Rattle.manager.specs.Partitions.{unspent_partition, partition_generation, new_partition, create_partition, ident_partition, delete_partition, get_buffer, return_buffer}
use Rattle.manager.specs.declared.Partition.{Partition}
use Rattle.manager.specs.Perform.{perform, defined}
use Rattle.manager.specs.declared.Call.{Call}
use Rattle.effects.specs.Effects.{Whole, CallEffects, LinkWord, Demand1}
use Rattle.effects.proofs.Answers.{rightly, other_status, refuses, acts, effects}
use Rattle.manager.specs.Words.{MapWord, Only}
use Rattle.manager.proofs.Laws.Words.{unchanged, only_then, drawn_only, Mapped, sited_mapped, drawn_mapped, served_only}
use Rattle.manager.proofs.Laws.Notices.{told_once}
use Rattle.effects.proofs.Rounds.{after_only}
use Rattle.effects.proofs.Access.{write_effects, read_effects}

-- ---- REGIONS, AND THE CLOCK

-- the pages of a new map
new_pages : (n : ℕ) → total (free+ n []) ≡ n
unfolding total
new_pages n = total_free n [] ∙ omega arith

-- a new region stands in its slot, under its id
new_there : (d : Manager) (w : Whole d) (slot : ℕ) (r : Region) → leb slots slot ≡ false → ¬ (r.name ≡ 0) → region_of (with_region d slot r) (id_of slot r.generation) ≡ r
new_there d w slot r h n =
    let u = leb-false slots slot h in
    put_there (λ r. r.name) (λ r. r.generation) no_region d.regions slot u (omega (arith, w.regions)) r r.generation n refl

module _ (m : List ℕ) (d : Manager) where
  -- a live region of sound records
  mapped : (id : ℕ) → sound m d ≡ true → dead (region_of d id) ≡ false → Mapped m (region_of d id)
  mapped id ok live = sited_mapped m (region_of d id) (sited m d id ok live)

  create_region_lem : (name start bytes page : ℕ) (order : Order)
      → CallEffects m d (CreateRegion name start bytes page order) (create_region m d name start bytes page order)
  unfolding create_region every any Passed
  create_region_lem name start bytes page order =
      let slot = unspent_region d in
      let r = new_region (region_generation d slot) name start bytes page order in
      effects m d (CreateRegion name start bytes page order) _ _ refl refl (λ ok p.
      acts m d (CreateRegion name start bytes page order) ok _ refl refl (λ w.
      subst (λ (x : Region). Only (MapWord x) m (with_segments m r (free+ (pages_of r) []))) (sym (new_there d w slot r p.1.1.1.1.1.1.1.1.0 (eqb-false name 0 p.0)))
      (drawn_only m r (free+ (pages_of r) []) (new_pages (pages_of r)))))

  -- these change no word
  ident_region_lem : (name : ℕ) → CallEffects m d (IdentRegion name) (ident_region m d name)
  unfolding ident_region every any
  ident_region_lem name = effects m d (IdentRegion name) _ _ refl refl (λ ok p. acts m d (IdentRegion name) ok _ refl refl (λ w. unchanged))

  delete_region_lem : (id : ℕ) → CallEffects m d (DeleteRegion id) (delete_region m d id)
  unfolding delete_region every any
  delete_region_lem id = effects m d (DeleteRegion id) _ _ refl refl (λ ok p. acts m d (DeleteRegion id) ok _ refl refl (λ w. unchanged))

  segment_size_lem : (id address : ℕ) → CallEffects m d (SegmentSize id address) (segment_size m d id address)
  unfolding segment_size every any
  segment_size_lem id address = effects m d (SegmentSize id address) _ _ refl refl (λ ok p. acts m d (SegmentSize id address) ok _ refl refl (λ w. unchanged))

  region_information_lem : (id : ℕ) → CallEffects m d (RegionInformation id) (region_information m d id)
  unfolding region_information every any
  region_information_lem id = effects m d (RegionInformation id) _ _ refl refl (λ ok p. acts m d (RegionInformation id) ok _ refl refl (λ w. unchanged))

  -- a tick: the maps of live regions, where anyone was sent away
  clock_tick : CallEffects m d Tick (tick m d)
  unfolding tick every any
  clock_tick = effects m d Tick _ _ refl refl (λ ok p. acts m d Tick ok _ refl refl (λ w. after_only (leaving d.waiters) m d ok w))

  -- a get: pages taken, or a refusal, or the task waits
  module _ (id size alignment task priority ticks : ℕ) where
    abbrev need : Need
    need = need_of (region_of d id) size alignment

    abbrev found : Wait → Option ℕ → Result
    found wait g =
        let r = region_of d id in
        on_place g (λ p. done (taken m r need) d (address_of r p))
        (unplaced m d wait (record { task = task; region = id; size = size; alignment = alignment; priority = priority; ticks = ticks }))

    taken_only : sound m d ≡ true → dead (region_of d id) ≡ false → Only (MapWord (region_of d id)) m (taken m (region_of d id) need)
    taken_only ok live =
        let r = region_of d id in
        drawn_only m r (allocate (kind r) need (first_page_of r) (segments m r)) ((keeps r.order).total_take need (first_page_of r) (segments m r) ∙ (mapped id ok live).pages)

    waits : (w : Waiter) → sound m d ≡ true → CallEffects m d (GetSegment id size alignment Yes task priority ticks) (replied m (enqueue d w) Waiting 0)
    unfolding enqueue any
    waits w ok =
        record {
          numbered = (on_in _ _).0 refl;
          checks = rightly m d Waiting ok (other_status Waiting InternalError refl);
          refusal = λ f. absurd (false≢true f);
          waits = λ f. refl;
          only = λ x. unchanged;
        }

    get_acts : (wait : Wait) → sound m d ≡ true → dead (region_of d id) ≡ false → (g : Option ℕ) → CallEffects m d (GetSegment id size alignment wait task priority ticks) (found wait g)
    unfolding any
    get_acts No ok live (Some p) = acts m d (GetSegment id size alignment No task priority ticks) ok _ refl refl (λ w. taken_only ok live)
    get_acts Yes ok live (Some p) = acts m d (GetSegment id size alignment Yes task priority ticks) ok _ refl refl (λ w. taken_only ok live)
    get_acts No ok live None = refuses m d (GetSegment id size alignment No task priority ticks) ok Unsatisfied 0 refl refl refl refl
    get_acts Yes ok live None = waits _ ok

    get_segment_lem : (wait : Wait) → CallEffects m d (GetSegment id size alignment wait task priority ticks) (get_segment m d id size alignment wait task priority ticks)
    unfolding get_segment every any Passed
    get_segment_lem No =
        effects m d (GetSegment id size alignment No task priority ticks) _ _ refl refl (λ ok p. get_acts No ok p.1.0 (placed m (region_of d id) need))
    get_segment_lem Yes =
        effects m d (GetSegment id size alignment Yes task priority ticks) _ _ refl refl (λ ok p. get_acts Yes ok p.1.0 (placed m (region_of d id) need))

  -- a return: the map with the segment freed, and then the queue served
  return_segment_lem : (id address : ℕ) → CallEffects m d (ReturnSegment id address) (return_segment m d id address)
  unfolding return_segment every any Passed
  return_segment_lem id address =
      let r = region_of d id in
      let p = page_at r address in
      effects m d (ReturnSegment id address) _ _ refl refl (λ ok c.
      acts m d (ReturnSegment id address) ok _ refl refl (λ w.
      let s = mapped id ok c.0 in
      let g = (kind r).change p 0 (first_page_of r) (segments m r) in
      let t : total g ≡ pages_of r = (keeps r.order).total_return p (first_page_of r) (segments m r) ∙ s.pages in
      only_then (drawn_only m r g t) (served_only _ d id (drawn_mapped m r s g t))))

  -- a resize: the map with the segment changed, and then the queue served; or 13 with the old length
  resize_segment_lem : (id address size : ℕ) → CallEffects m d (ResizeSegment id address size) (resize_segment m d id address size)
  unfolding resize_segment every any Passed
  resize_segment_lem id address size =
      let r = region_of d id in
      let p = page_at r address in
      let k = pages_asked r size in
      let old = held_at m r address * r.page in
      let g = (kind r).change p k (first_page_of r) (segments m r) in
      let c = ResizeSegment id address size in
      effects m d c _ _ refl refl (λ ok q.
      by_case (can_have m r address k)
      (λ b. CallEffects m d c (cond b (from_served old (serve (with_segments m r g) d id)) (replied m d Unsatisfied old)))
      (λ e. acts m d c ok _ refl refl (λ w.
      let s = mapped id ok q.1.0 in
      let t : total g ≡ pages_of r = (keeps r.order).total_change p k (first_page_of r) (segments m r) e ∙ s.pages in
      only_then (drawn_only m r g t) (served_only _ d id (drawn_mapped m r s g t))))
      (λ e. refuses m d c ok Unsatisfied old refl refl refl refl))

-- ---- PARTITIONS: a get and a return write links of buffers on the chain, a create those of all the new partition's buffers, which are all
-- on its chain then

-- no link of a buffer on the chain is no link of each
not_links : (m : List ℕ) (p : Partition) (j : ℕ) → ¬ LinkWord m p j → (x : ℕ) → is_free m p x ≡ true → (j ≡ x / 4 → ⊥) × (j ≡ x / 4 + 1 → ⊥)
not_links m p j h x f = (λ e. h (x, f, inl e), λ e. h (x, f, inr e))

-- another state of what an id names stands in its slot, under that id
still_there : (d : Manager) (w : Whole d) (id : ℕ) (p : Partition) → dead_partition (partition_of d id) ≡ false → p.name ≡ (partition_of d id).name
    → p.generation ≡ (partition_of d id).generation → partition_of (with_partition d (slot_of id) p) id ≡ p
still_there d w id p live e g =
    let n = eqb-false (partition_of d id).name 0 live in
    let v = live_object (λ p. p.name) (λ p. p.generation) no_partition d.partitions refl id n in
    let u = live_within (λ p. p.name) (λ p. p.generation) no_partition d.partitions refl id v in
    let h : slot_of id < slots = omega (arith, w.partitions) in
    ap (partition_of (with_partition d (slot_of id) p)) (sym (id_back id h))
    ∙ put_there (λ p. p.name) (λ p. p.generation) no_partition d.partitions (slot_of id) h u p (generation_of id) (λ z. n (sym e ∙ z))
    (g ∙ ap (λ (q : Partition). q.generation) v.is ∙ v.same)

module _ (m : List ℕ) (d : Manager) where
  -- these change no word
  ident_partition_lem : (name : ℕ) → CallEffects m d (IdentPartition name) (ident_partition m d name)
  unfolding ident_partition every any
  ident_partition_lem name = effects m d (IdentPartition name) _ _ refl refl (λ ok p. acts m d (IdentPartition name) ok _ refl refl (λ w. unchanged))

  delete_partition_lem : (id : ℕ) → CallEffects m d (DeletePartition id) (delete_partition m d id)
  unfolding delete_partition every any
  delete_partition_lem id = effects m d (DeletePartition id) _ _ refl refl (λ ok p. acts m d (DeletePartition id) ok _ refl refl (λ w. unchanged))

  -- a get
  get_words : (p : Partition) → LaidPartition m p → sound_chain m p ≡ true → 0 < p.free → Only (LinkWord m p) m (after_get m p)
  get_words p g e h = record { size = get_length m p; same = λ j n. get_only m p g.shaped e j (not_links m p j n) h }

  get_buffer_lem : (id : ℕ) → CallEffects m d (GetBuffer id) (get_buffer m d id)
  unfolding get_buffer every any Passed
  get_buffer_lem id =
      let p = partition_of d id in
      effects m d (GetBuffer id) _ _ refl refl (λ ok c.
      acts m d (GetBuffer id) ok _ refl refl (λ w.
      let v = sound_live m d ok id (eqb-false p.name 0 c.0) in
      let n = eqb-false p.free 0 c.1.0 in
      get_words p (live_laid m p v) (live_chain m p v) (omega arith)))

  -- a return: the chain afterwards is the one before with the buffer behind it
  return_words : (p : Partition) → LaidPartition m p → sound_chain m p ≡ true → (a : ℕ) → is_buffer p a ≡ true → is_free m p a ≡ false
      → Only (LinkWord (after_return m p a) (returned p a)) m (after_return m p a)
  return_words p g e a b f =
      let c = return_chain m p g e a b f in
      let on : (x : ℕ) → is_free m p x ≡ true → is_free (after_return m p a) (returned p a) x ≡ true =
      λ x q. ap (any (eqb x)) c ∙ some_append (eqb x) (chain m p) (a ∷ []) ∙ rw q in
      let last : is_free (after_return m p a) (returned p a) a ≡ true =
      ap (any (eqb a)) c ∙ some_append (eqb a) (chain m p) (a ∷ []) ∙ rw (f, on_head a a [] refl) in
      record {
        size = return_length m p a;
        same = λ j n.
            let o = not_links (after_return m p a) (returned p a) j n in
            return_only m p g.shaped e j a (λ x q. o x (on x q)) (o a last).0 (o a last).1;
      }

  return_buffer_lem : (id address : ℕ) → CallEffects m d (ReturnBuffer id address) (return_buffer m d id address)
  unfolding return_buffer every any Passed
  return_buffer_lem id a =
      let p = partition_of d id in
      effects m d (ReturnBuffer id a) _ _ refl refl (λ ok c.
      acts m d (ReturnBuffer id a) ok _ refl refl (λ w.
      let v = sound_live m d ok id (eqb-false p.name 0 c.0) in
      let there = still_there d w id (returned p a) c.0 refl refl in
      subst (λ (x : Partition). Only (LinkWord (after_return m p a) x) m (after_return m p a)) (sym there)
      (return_words p (live_laid m p v) (live_chain m p v) a (not-false (is_buffer p a) c.1.0) c.1.1.0)))

  -- a create
  new_words : (p : Partition) → LaidPartition m p → Created p → Only (LinkWord (link_all (buffers p) m p 0) p) m (link_all (buffers p) m p 0)
  new_words p g c =
      let M = link_all (buffers p) m p 0 in
      record {
        size = all_length (buffers p) m p 0;
        same = λ j n. all_clear (buffers p) m p 0 j (λ k l u.
            not_links M p j n (buffer_at p k)
            (all_free M p g.shaped (create_sound m p g c) c.free (buffer_at p k)
            (of_buffer p g.shaped (buffer_at p k) (buffer_at_lem p g.shaped k (omega arith)))));
      }

  create_partition_lem : (name start bytes size : ℕ) → CallEffects m d (CreatePartition name start bytes size) (create_partition m d name start bytes size)
  unfolding create_partition every any Passed
  create_partition_lem name start bytes size =
      let slot = unspent_partition d in
      let g = partition_generation d slot in
      let p = new_partition g name start bytes size in
      effects m d (CreatePartition name start bytes size) _ _ refl refl (λ ok c.
      acts m d (CreatePartition name start bytes size) ok _ refl refl (λ w.
      let n = eqb-false start 0 c.1.1.0 in
      let a = eqb-true (start % 4) 0 (not-false (eqb (start % 4) 0) c.1.1.1.0) in
      let u = ltb-false (4 * length m) (start + bytes) c.1.1.1.1.0 in
      let l = ltb-false bytes size c.1.1.1.1.1.1.1.0 in
      let v = eqb-true (size % 4) 0 (not-false (eqb (size % 4) 0) c.1.1.1.1.1.1.1.1.0) in
      let b = ltb-false size 8 c.1.1.1.1.1.1.1.1.1.0 in
      let s = leb-false slots slot c.1.1.1.1.1.1.1.1.1.1.1.0 in
      let there =
      put_there (λ p. p.name) (λ p. p.generation) no_partition d.partitions slot s (omega (arith, w.partitions)) p g (eqb-false name 0 c.0) refl in
      subst (λ (x : Partition). Only (LinkWord (link_all (buffers p) m p 0) x) m (link_all (buffers p) m p 0)) (sym there)
      (new_words p (new_laid m g name start bytes size n a u l v b) (new_created m g name start bytes size n a u l v b))))

-- ---- EVERY CALL

pub calls : (m : List ℕ) (d : Manager) (c : Call) → CallEffects m d c (perform m d c)
unfolding perform
calls m d (CreateRegion name start bytes page order) = create_region_lem m d name start bytes page order
calls m d (IdentRegion name) = ident_region_lem m d name
calls m d (DeleteRegion id) = delete_region_lem m d id
calls m d (GetSegment id size alignment wait task priority ticks) = get_segment_lem m d id size alignment task priority ticks wait
calls m d (ReturnSegment id address) = return_segment_lem m d id address
calls m d (SegmentSize id address) = segment_size_lem m d id address
calls m d (ResizeSegment id address size) = resize_segment_lem m d id address size
calls m d (RegionInformation id) = region_information_lem m d id
calls m d (CreatePartition name start bytes size) = create_partition_lem m d name start bytes size
calls m d (IdentPartition name) = ident_partition_lem m d name
calls m d (DeletePartition id) = delete_partition_lem m d id
calls m d (GetBuffer id) = get_buffer_lem m d id
calls m d (ReturnBuffer id address) = return_buffer_lem m d id address
calls m d Tick = clock_tick m d

-- THE THEOREM
pub theorem : Demand1 defined
theorem =
    record {
      call = calls;
      once = λ m d c w. (told_once m d w.waiters c).once;
      few = λ m d c w. (told_once m d w.waiters c).few;
      write = write_effects;
      read = read_effects;
    }

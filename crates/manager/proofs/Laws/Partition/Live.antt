-- The live partitions of sound records: laid in the memory, with a sound chain; a get and a return leave them so. Assumes nothing.
use Prim.Native.Nat.{ℕ, ◌+◌, ◌*◌, ◌/◌, ◌%◌, ◌≤◌, ◌<◌}
use mathlib.Core.Path.{◌≡◌, refl}
use mathlib.Core.Bool.{true, false, not}
use mathlib.Core.List.{List}
use mathlib.Core.Logic.{⊎_elim}
use native.Mathlib.Omega.{arith}
use native.Mathlib.Nat.{lt-div-mul-add}
use lib.ListN.{length, get_or}
use lib.Dec.{eqb, leb}
use borrow.Author.Tests.{eqb-true, eqb-false, leb-true, not-true, eq-eqb, ne_eqb, le-leb}
use Rattle.manager.specs.Record.{slots, generations, no_partition, slot_of, partition_of}
use Rattle.manager.proofs.Laws.Lists.{and_first, and_second, every_at}
use Rattle.manager.proofs.Laws.Sound.{sound_partitions, generation_most}
use Rattle.manager.proofs.Laws.Ids.{Live, live_object, live_within}
use Rattle.manager.specs.Partition.{buffers, is_buffer, is_free, sound_chain, link_all, after_get, gotten, after_return, returned}
use Rattle.manager.proofs.Laws.Distinct.{same_or_not}
use Rattle.manager.specs.Partitions.{partition_generation, new_partition}
use Rattle.manager.specs.Partition.{dead_partition}
use Rattle.manager.specs.Sound.{sound_length, inside, sound_size, sound_generation, empty_partition, live_partition, sound_partition, sound, LaidPartition}
use Rattle.manager.specs.declared.Manager.{Manager}
use Rattle.manager.specs.declared.Partition.{Partition}
use Rattle.manager.proofs.Laws.Partition.Links.{get_sound, return_sound}
use Rattle.manager.proofs.Laws.Partition.Created.{all_length, Created, create_sound}
use Rattle.manager.proofs.Laws.Partition.Area.{get_length, return_length}

module _ (m : List ℕ) (p : Partition) where
  pub live_laid : live_partition m p ≡ true → LaidPartition m p
  unfolding live_partition
  live_laid e =
      let i = and_first (inside m p.start p.length) _ e in
      let r = and_second (inside m p.start p.length) _ e in
      let a = and_first (eqb (p.start % 4) 0) _ r in
      let z = and_first (sound_size p.length p.size) _ (and_second (eqb (p.start % 4) 0) _ r) in
      let y = and_second (leb p.size p.length) _ z in
      let n : p.start ≡ 0 → ⊥ = eqb-false _ _ (not-true _ (and_first (not (eqb p.start 0)) _ i)) in
      record {
        shaped =
            record {
              start_in = ⊎_elim (λ (q : p.start ≡ 0). absurd (n q)) (λ (q : p.start ≡ 0 → ⊥). omega arith) (same_or_not p.start 0);
              aligned = eqb-true _ _ a;
              whole = eqb-true _ _ (and_first (eqb (p.size % 4) 0) _ y);
              big = leb-true _ _ (and_second (eqb (p.size % 4) 0) _ y);
            };
        inside = leb-true _ _ (and_second (not (eqb p.start 0)) _ i);
      }

  pub live_size : live_partition m p ≡ true → p.size ≤ p.length
  unfolding live_partition
  live_size e =
      let r = and_second (inside m p.start p.length) _ e in
      leb-true _ _ (and_first (leb p.size p.length) _ (and_first (sound_size p.length p.size) _ (and_second (eqb (p.start % 4) 0) _ r)))

  pub live_chain : live_partition m p ≡ true → sound_chain m p ≡ true
  unfolding live_partition
  live_chain e =
      let r = and_second (inside m p.start p.length) _ e in
      and_second (sound_size p.length p.size) _ (and_second (eqb (p.start % 4) 0) _ r)

  pub live_made : LaidPartition m p → p.size ≤ p.length → sound_chain m p ≡ true → live_partition m p ≡ true
  unfolding live_partition
  live_made g h e =
      let z : p.start ≡ 0 → ⊥ = λ q. omega (arith, g.shaped.start_in) in
      rw (ne_eqb _ _ z, le-leb _ _ g.inside, eq-eqb _ _ g.shaped.aligned, le-leb _ _ h, eq-eqb _ _ g.shaped.whole, le-leb _ _ g.shaped.big, e)

-- the same area and size, over a memory of the same length
laid_too : (m m' : List ℕ) (p p' : Partition) → p'.start ≡ p.start → p'.length ≡ p.length → p'.size ≡ p.size → length m' ≡ length m → LaidPartition m p → LaidPartition m' p'
laid_too m m' p p' a b c d g =
    let s = g.shaped in
    record {
      shaped = record { start_in = rw a s.start_in; aligned = rw a s.aligned; whole = rw c s.whole; big = rw c s.big };
      inside = rw (a, b, d) g.inside;
    }

-- A get and a return leave a live partition live
module _ (m : List ℕ) (p : Partition) (e : live_partition m p ≡ true) where
  pub live_get : 0 < p.free → live_partition (after_get m p) (gotten m p) ≡ true
  live_get h =
      let g = live_laid m p e in
      live_made (after_get m p) (gotten m p) (laid_too m (after_get m p) p (gotten m p) refl refl refl (get_length m p) g) (live_size m p e)
      (get_sound m p g (live_chain m p e) h)

  pub live_return : (a : ℕ) → is_buffer p a ≡ true → is_free m p a ≡ false → live_partition (after_return m p a) (returned p a) ≡ true
  live_return a q o =
      let g = live_laid m p e in
      live_made (after_return m p a) (returned p a) (laid_too m (after_return m p a) p (returned p a) refl refl refl (return_length m p a) g) (live_size m p e)
      (return_sound m p g (live_chain m p e) a q o)

-- what was tested of a new partition makes it one
pub some_buffer : (p : Partition) → 0 < p.size → p.size ≤ p.length → 0 < buffers p
some_buffer p z h =
    let u : p.length < buffers p * p.size + p.size = lt-div-mul-add z in
    ⊎_elim
    (λ (q : buffers p ≡ 0).
    let w : p.length < 0 * p.size + p.size = rw q at u in
    omega arith)
    (λ (q : buffers p ≡ 0 → ⊥). omega arith)
    (same_or_not (buffers p) 0)

module _ (m : List ℕ) (generation name start bytes size : ℕ) (a : start ≡ 0 → ⊥) (b : start % 4 ≡ 0) (c : start + bytes ≤ 4 * length m) (d : size ≤ bytes)
    (e : size % 4 ≡ 0) (f : 8 ≤ size) where
  pub new_laid : LaidPartition m (new_partition generation name start bytes size)
  new_laid =
      record {
        shaped =
            record {
              start_in = ⊎_elim (λ (q : start ≡ 0). absurd (a q)) (λ (q : start ≡ 0 → ⊥). omega arith) (same_or_not start 0);
              aligned = b;
              whole = e;
              big = f;
            };
        inside = c;
      }

  pub new_created : Created (new_partition generation name start bytes size)
  new_created =
      record {
        front = refl;
        rear = refl;
        free = refl;
        some_in = some_buffer (new_partition generation name start bytes size) (omega arith) d;
      }

  pub live_new : live_partition (link_all (bytes / size) m (new_partition generation name start bytes size) 0) (new_partition generation name start bytes size) ≡ true
  live_new =
      let p = new_partition generation name start bytes size in
      let M = link_all (buffers p) m p 0 in
      live_made M p (laid_too m M p p refl refl refl (all_length (buffers p) m p 0) new_laid) d (create_sound m p new_laid new_created)

-- sound records: the memory is not long, and what an id names is live, if it is not dead
pub sound_most : (m : List ℕ) (d : Manager) → sound m d ≡ true → length m ≤ 16384
unfolding sound
sound_most m d e = leb-true _ _ (and_second (leb 1 (length m)) _ (and_first (sound_length m) _ e))

-- of one slot
module _ (m : List ℕ) (p : Partition) (e : sound_partition m p ≡ true) where
  pub partition_generation_lem : sound_generation p.name p.generation ≡ true
  unfolding sound_partition
  partition_generation_lem = and_first (sound_generation p.name p.generation) _ e

  pub live_partition_lem : dead_partition p ≡ false → live_partition m p ≡ true
  unfolding sound_partition
  live_partition_lem f = rw f at (and_second (sound_generation p.name p.generation) _ e)

  pub empty_partition_lem : dead_partition p ≡ true → empty_partition p ≡ true
  unfolding sound_partition
  empty_partition_lem f = rw f at (and_second (sound_generation p.name p.generation) _ e)

-- the generations of sound records
pub partition_most : (m : List ℕ) (d : Manager) → sound m d ≡ true → length d.partitions ≡ slots → (i : ℕ) → i < slots → partition_generation d i ≤ generations
partition_most m d ok n i h =
    let p = get_or d.partitions i no_partition in
    generation_most p.name p.generation (partition_generation_lem m p (every_at (sound_partition m) d.partitions i no_partition (sound_partitions m d ok) (omega arith)))

module _ (m : List ℕ) (d : Manager) (e : sound m d ≡ true) where
  module _ (id : ℕ) (n : (partition_of d id).name ≡ 0 → ⊥) where
    pub sound_slot : sound_partition m (partition_of d id) ≡ true
    sound_slot =
        let v : Live (λ (p : Partition). p.name) (λ p. p.generation) no_partition d.partitions id =
        live_object (λ p. p.name) (λ p. p.generation) no_partition d.partitions refl id n in
        rw v.is
        (every_at (sound_partition m) d.partitions (slot_of id) no_partition (sound_partitions m d e)
        (live_within (λ p. p.name) (λ p. p.generation) no_partition d.partitions refl id v))

    pub sound_live : live_partition m (partition_of d id) ≡ true
    sound_live = live_partition_lem m (partition_of d id) sound_slot (ne_eqb _ _ n)

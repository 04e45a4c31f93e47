-- Making a partition: what each step of the code shows, over plain variables. The loop that chains the buffers has done so up to
-- number k, and what is left of `link_all` from there gives the whole. Assumes nothing.
use Prim.Native.Nat.{ℕ, zero, suc, ◌+◌, ◌-◌, ◌*◌, ◌≤◌, ◌<◌}
use mathlib.Core.Path.{◌≡◌, refl, ◌∙◌}
use mathlib.Core.Bool.{true, false, cond}
use mathlib.Core.List.{List}
use mathlib.Core.Logic.{⊎_elim}
use native.Mathlib.Omega.{arith}
use lib.ListN.{length, get_or}
use Rattle.manager.specs.Record.{generations, no_partition}
use Rattle.manager.specs.Sound.{sound, sound_partition}
use Rattle.manager.specs.Partitions.{partition_generation}
use Rattle.manager.proofs.Laws.Appended.{by_case}
use Rattle.manager.proofs.Laws.Lists.{every_at}
use Rattle.manager.proofs.Laws.Sound.{sound_partitions, generation_most}
use Rattle.manager.proofs.Laws.Partition.Live.{partition_generation_lem, sound_most}
use Rattle.manager.specs.declared.Manager.{Manager}
use Rattle.std.proofs.lemmas.List.{get_or_past}
use lib.Dec.{eqb, ltb}
use borrow.Author.Tests.{eq-eqb, ne_eqb, lt-ltb, le-ltb, ltb-true, ltb-false}
use Rattle.manager.specs.Partition.{buffers, buffer_at, link, link_all}
use Rattle.manager.proofs.Laws.Distinct.{same_or_not}
use Rattle.manager.specs.declared.Partition.{Partition}

-- ONE BUFFER OF THE CHAIN: what is left of `link_all` behind it is what was left at it
turn : (left : ℕ) (m : List ℕ) (p : Partition) (k : ℕ)
    → link_all left (link m (buffer_at p k) (cond (eqb left 0) 0 (buffer_at p (k + 1))) (cond (eqb k 0) 0 (buffer_at p (k - 1)))) p (k + 1) ≡ link_all (suc left) m p k
unfolding link_all
turn left m p k = refl

all_none : (m : List ℕ) (p : Partition) (k : ℕ) → link_all 0 m p k ≡ m
unfolding link_all
all_none m p k = refl

next_is : (n k a b : ℕ) → k < n → a ≡ b → cond (ltb (k + 1) n) a 0 ≡ cond (eqb (n - (k + 1)) 0) 0 b
next_is n k a b l e =
    ⊎_elim
    (λ (z : n - (k + 1) ≡ 0). rw (eq-eqb _ _ z, le-ltb (k + 1) n (omega arith)))
    (λ (z : n - (k + 1) ≡ 0 → ⊥). rw (ne_eqb _ _ z, lt-ltb (k + 1) n (omega arith)) e)
    (same_or_not (n - (k + 1)) 0)

before_is : (p : Partition) (k : ℕ) → cond (eqb k 0) 0 (buffer_at p k - p.size) ≡ cond (eqb k 0) 0 (buffer_at p (k - 1))
before_is p zero = refl
before_is p (suc k) =
    let z : suc k - 1 ≡ k = omega arith in
    let n : suc k ≡ 0 → ⊥ = λ e. omega arith in
    let e : p.start + (suc k) * p.size - p.size ≡ p.start + k * p.size = omega arith in
    rw (ne_eqb _ _ n, z) e

module _ (p : Partition) (m : List ℕ) (k : ℕ) where
  pub linked_more : k < buffers p → (next before : ℕ) → next ≡ cond (ltb (k + 1) (buffers p)) (buffer_at p k + p.size) 0
      → before ≡ cond (eqb k 0) 0 (buffer_at p k - p.size) → (w : List ℕ) → w ≡ link m (buffer_at p k) next before
      → link_all (buffers p - (k + 1)) w p (k + 1) ≡ link_all (buffers p - k) m p k
  linked_more l next before e f w g =
      let left = buffers p - (k + 1) in
      let s : buffers p - k ≡ suc left = omega arith in
      let a : buffer_at p k + p.size ≡ buffer_at p (k + 1) = omega arith in
      let x : next ≡ cond (eqb left 0) 0 (buffer_at p (k + 1)) = e ∙ next_is (buffers p) k (buffer_at p k + p.size) (buffer_at p (k + 1)) l a in
      let y : before ≡ cond (eqb k 0) 0 (buffer_at p (k - 1)) = f ∙ before_is p k in
      let h : w ≡ link m (buffer_at p k) (cond (eqb left 0) 0 (buffer_at p (k + 1))) (cond (eqb k 0) 0 (buffer_at p (k - 1))) = g ∙ rw (x, y) in
      rw (h, s) (turn left m p k)

  pub linked_all : buffers p ≤ k → link_all (buffers p - k) m p k ≡ m
  linked_all l = let z : buffers p - k ≡ 0 = omega arith in rw z (all_none m p k)

-- the area of the new one ends in the memory
pub area_ends : (m : List ℕ) (d : Manager) → sound m d ≡ true → (start bytes : ℕ) → ltb (4 * length m) (start + bytes) ≡ false → start + bytes < 4294967296
area_ends m d ok start bytes h = omega (arith, ltb-false (4 * length m) (start + bytes) h, sound_most m d ok)

-- the generation of a slot, and past the slots
pub generation_is_small : (m : List ℕ) (d : Manager) → sound m d ≡ true → (i : ℕ) → partition_generation d i ≤ generations
generation_is_small m d ok i =
    by_case (ltb i (length d.partitions)) (λ b. partition_generation d i ≤ generations)
    (λ e.
    let p = get_or d.partitions i no_partition in
    generation_most p.name p.generation
    (partition_generation_lem m p (every_at (sound_partition m) d.partitions i no_partition (sound_partitions m d ok) (ltb-true i (length d.partitions) e))))
    (λ e.
    let z : get_or d.partitions i no_partition ≡ no_partition = get_or_past d.partitions i no_partition (ltb-false i (length d.partitions) e) in
    rw (partition_generation, z) (omega arith))

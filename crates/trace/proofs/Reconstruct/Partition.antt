-- The entry of a partition, read off a sound record: the buffers on its chain are not lent, and all the others are. Assumes nothing.
use Rattle.std.specs.Prelude.{Option, None, Some}
use mathlib.Core.Path.{◌≡◌, refl, sym, ◌∙◌, subst}
use mathlib.Core.Bool.{Bool, true, false, cond, ◌&&◌}
use mathlib.Core.List.{List, [], ◌∷◌}
use mathlib.Core.Logic.{inl, inr, ⊎_elim}
use Prim.Native.Nat.{ℕ, ◌+◌, ◌<◌}
use native.Mathlib.Omega.{arith}
use lib.ListN.{length}
use lib.Dec.{eqb}
use borrow.Author.Tests.{eqb-true, eqb-false}
use Rattle.manager.proofs.Laws.Lists.{and_first, and_second}
use Rattle.manager.specs.Record.{emptied_partition}
use Rattle.manager.specs.Partition.{dead_partition, buffers, chain}
use Rattle.manager.specs.Sound.{empty_partition, live_partition, sound_partition}
use Rattle.manager.specs.declared.Partition.{Partition}
use Rattle.manager.proofs.Laws.Partition.Live.{live_laid, live_chain, live_partition_lem, empty_partition_lem}
use Rattle.manager.proofs.Laws.Partition.Chain.{linked_on}
use Rattle.manager.proofs.Laws.Distinct.{on_in}
use Rattle.manager.specs.Lists.{In, Distinct}
use Rattle.trace.specs.Receipts.{PartitionEntry, buffers_from, strike}
use Rattle.trace.proofs.Invariant.{PartitionIs, PartitionSlot, empty, live}
use Rattle.trace.proofs.Buffers.{chain_once, in_or_not, within_strike, strike_other, strike_keeps, strike_distinct, strike_length, length_buffers, distinct_buffers, buffer_within, within_buffer}

-- ---- several numbers struck

unfoldable pub strike_all : List ℕ → List ℕ → List ℕ
strike_all [] l = l
strike_all (c ∷ cs) l = strike_all cs (strike c l)

pub within_struck : (a : ℕ) (cs l : List ℕ) → In a (strike_all cs l) → In a l
unfolding strike_all
within_struck a [] l h = h
within_struck a (c ∷ cs) l h = within_strike c a l (within_struck a cs (strike c l) h)

pub struck_other : (a : ℕ) (cs l : List ℕ) → Distinct l → In a (strike_all cs l) → ¬ In a cs
unfolding strike_all In
struck_other a [] l d h k = k
struck_other a (c ∷ cs) l d h (inl e) = strike_other c a l d (within_struck a cs (strike c l) h) (sym e)
struck_other a (c ∷ cs) l d h (inr k) = struck_other a cs (strike c l) (strike_distinct c l d) h k

pub struck_keeps : (a : ℕ) (cs l : List ℕ) → In a l → ¬ In a cs → In a (strike_all cs l)
unfolding strike_all In
struck_keeps a [] l h n = h
struck_keeps a (c ∷ cs) l h n =
    struck_keeps a cs (strike c l) (strike_keeps c a l h (λ (e : a ≡ c). n (inl (sym e)))) (λ (k : In a cs). n (inr k))

pub struck_distinct : (cs l : List ℕ) → Distinct l → Distinct (strike_all cs l)
unfolding strike_all
struck_distinct [] l d = d
struck_distinct (c ∷ cs) l d = struck_distinct cs (strike c l) (strike_distinct c l d)

pub struck_length : (cs l : List ℕ) → Distinct cs → ((c : ℕ) → In c cs → In c l) → length (strike_all cs l) + length cs ≡ length l
unfolding strike_all In Distinct
struck_length [] l d h = omega arith
struck_length (c ∷ cs) l d h =
    let ih = struck_length cs (strike c l) d.1 (λ x k. strike_keeps c x l (h x (inr k)) (λ (e : x ≡ c). d.0 (subst (λ (y : ℕ). In y cs) e k))) in
    omega (arith, strike_length c l (h c (inl refl)))

-- ---- the entry

abbrev pub partition_entry : List ℕ → Partition → PartitionEntry
partition_entry m p =
    record {
      name = p.name;
      start = p.start;
      bytes = p.length;
      size = p.size;
      lent = strike_all (chain m p) (buffers_from (buffers p) p.size p.start);
      unlent = chain m p;
    }

abbrev pub partition_slot : List ℕ → Partition → Option PartitionEntry
partition_slot m p = cond (dead_partition p) None (Some (partition_entry m p))

-- an empty slot is all zeros but for its generation
pub no_partition_lem : (p : Partition) → p.name ≡ 0 → empty_partition p ≡ true → p ≡ emptied_partition p.generation
no_partition_lem p n e =
    let a = eqb p.start 0 in
    let b = eqb p.length 0 in
    let c = eqb p.size 0 in
    let f = eqb p.front 0 in
    let g = eqb p.rear 0 in
    let h = eqb p.free 0 in
    let e₁ = and_second a (b && (c && (f && (g && h)))) e in
    let e₂ = and_second b (c && (f && (g && h))) e₁ in
    let e₃ = and_second c (f && (g && h)) e₂ in
    let e₄ = and_second f (g && h) e₃ in
    let q₁ : p.start ≡ 0 = eqb-true p.start 0 (and_first a (b && (c && (f && (g && h)))) e) in
    let q₂ : p.length ≡ 0 = eqb-true p.length 0 (and_first b (c && (f && (g && h))) e₁) in
    let q₃ : p.size ≡ 0 = eqb-true p.size 0 (and_first c (f && (g && h)) e₂) in
    let q₄ : p.front ≡ 0 = eqb-true p.front 0 (and_first f (g && h) e₃) in
    let q₅ : p.rear ≡ 0 = eqb-true p.rear 0 (and_first g h e₄) in
    let q₆ : p.free ≡ 0 = eqb-true p.free 0 (and_second g h e₄) in
    λ i. record { name = n i; generation = p.generation; start = q₁ i; length = q₂ i; size = q₃ i; front = q₄ i; rear = q₅ i; free = q₆ i }

-- a live partition
pub is_partition : (m : List ℕ) (p : Partition) → ¬ (p.name ≡ 0) → live_partition m p ≡ true → PartitionIs m p (partition_entry m p)
is_partition m p n e =
    let s = (live_laid m p e).shaped in
    let all = buffers_from (buffers p) p.size p.start in
    let Some : 0 < p.size = omega (arith, s.big) in
    let once : Distinct all = distinct_buffers (buffers p) p.size p.start Some in
    record {
      named = n;
      name = refl;
      start = refl;
      bytes = refl;
      size = refl;
      sound = e;
      chained = refl;
      once = struck_distinct (chain m p) all once;
      buffer = λ a h. within_buffer p s a (within_struck a (chain m p) all h);
      either = λ a h. ⊎_elim (λ (k : In a (chain m p)). inr k)
          (λ (k : ¬ In a (chain m p)). inl (struck_keeps a (chain m p) all (buffer_within p s a h) k)) (in_or_not a (chain m p));
      apart = λ a h. struck_other a (chain m p) all once h;
      counted =
          struck_length (chain m p) all (chain_once m p e)
          (λ c k. buffer_within p s c (linked_on m p p.free 0 p.front c (live_chain m p e) ((on_in c (chain m p)).1 k)))
          ∙ length_buffers (buffers p) p.size p.start;
    }

-- A SOUND SLOT IS THE PICTURE OF ITS ENTRY
pub partition_read : (m : List ℕ) (p : Partition) → sound_partition m p ≡ true → PartitionSlot m p (partition_slot m p)
partition_read m p e = go (dead_partition p) refl
  where
    go : (b : Bool) → dead_partition p ≡ b → PartitionSlot m p (cond b None (Some (partition_entry m p)))
    go true f =
        subst (λ (x : Partition). PartitionSlot m x None) (sym (no_partition_lem p (eqb-true p.name 0 f) (empty_partition_lem m p e f))) (empty p.generation)
    go false f = live p (partition_entry m p) (is_partition m p (eqb-false p.name 0 f) (live_partition_lem m p e f))

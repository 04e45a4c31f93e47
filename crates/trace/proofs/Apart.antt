-- No two loans share a byte, of whatever objects: two of one region by its loans' order, two of one partition as two buffers, and two of
-- different objects as their areas. Assumes nothing.
use mathlib.Core.Path.{◌≡◌, refl, sym, ap, ◌∙◌, subst}
use mathlib.Core.List.{List}
use mathlib.Core.Logic.{◌⊎◌, inl, inr, ⊎_elim}
use Prim.Native.Nat.{ℕ, ◌+◌, ◌*◌, ◌≤◌}
use native.Mathlib.Nat.{mul-le-mul_right}
use native.Mathlib.Omega.{arith}
use Rattle.manager.specs.Record.{partition_of, region_of}
use Rattle.manager.specs.declared.Manager.{Manager}
use Rattle.trace.specs.Receipts.{Receipts, RegionEntry, PartitionEntry, unit, address_in}
use Rattle.trace.specs.Trace.{Object, region, partition, Loaned, segment, buffer}
use Rattle.trace.proofs.Invariant.{Inv, RegionIs, PartitionIs}
use Rattle.trace.proofs.Frame.{buffers_apart}
use Rattle.trace.proofs.Areas.{area_in, sound_clear, same_object}
use Rattle.trace.proofs.Clients.{SegmentLoan, BufferLoan, segment_loan, buffer_loan, region_at_lem, partition_at_lem, loan_in}
use Rattle.trace.proofs.Loans.Lawful.{no_overlap}
use Rattle.trace.proofs.Segments.{law}
use Rattle.trace.proofs.Disjoint.{clear_parts}

-- one byte range is the other, or one ends before the other starts
abbrev pub Alike : ℕ → ℕ → ℕ → ℕ → Type 0
Alike a n b k = ((a ≡ b) × (n ≡ k)) ⊎ ((a + n ≤ b) ⊎ (b + k ≤ a))

-- two loans of one region
pub segments_apart : (m : List ℕ) (e : RegionEntry) → RegionIs m e → (a n b k : ℕ) → SegmentLoan e a n → SegmentLoan e b k → Alike a n b k
segments_apart m e is a n b k x y = go (no_overlap (law e) is.fits x.p x.k y.p y.k x.lent y.lent)
  where
    go : ((x.p ≡ y.p) × (x.k ≡ y.k)) ⊎ ((x.p + x.k ≤ y.p) ⊎ (y.p + y.k ≤ x.p)) → Alike a n b k
    go (inl f) = inl (x.at ∙ ap (address_in e) f.0 ∙ sym y.at, x.bytes ∙ ap (λ (j : ℕ). j * unit e) f.1 ∙ sym y.bytes)
    go (inr (inl h)) = inr (inl (omega (arith, x.at, x.bytes, y.at, mul-le-mul_right (unit e) h)))
    go (inr (inr h)) = inr (inr (omega (arith, x.at, y.bytes, y.at, mul-le-mul_right (unit e) h)))

-- two of one partition
pub lent_apart : (m : List ℕ) (d : Manager) (id : ℕ) (e : PartitionEntry) → PartitionIs m (partition_of d id) e → (a n b k : ℕ)
    → BufferLoan e a n → BufferLoan e b k → Alike a n b k
lent_apart m d id e is a n b k x y = go (buffers_apart m (partition_of d id) e is a b (is.buffer a x.lent) (is.buffer b y.lent))
  where
    go : (a ≡ b) ⊎ ((a + (partition_of d id).size ≤ b) ⊎ (b + (partition_of d id).size ≤ a)) → Alike a n b k
    go (inl f) = inl (f, x.bytes ∙ sym y.bytes)
    go (inr (inl h)) = inr (inl (omega (arith, x.bytes, is.size)))
    go (inr (inr h)) = inr (inr (omega (arith, y.bytes, is.size)))

module _ (m : List ℕ) (d : Manager) (t : Receipts) (v : Inv m d t) where
  -- two of one object
  alike : (o : Object) (a n b k : ℕ) → Loaned t o a n → Loaned t o b k → Alike a n b k
  alike (region id) a n b k (segment e f j l) y =
      let r = region_at_lem m (region_of d id) (t.regions id) e (v.picture.regions id) f in
      segments_apart m e r.is a (j * unit e) b k
      (segment_loan m t id a (j * unit e) e r.is f (segment e f j l)) (segment_loan m t id b k e r.is f y)
  alike (partition id) a n b k (buffer e f l) y =
      lent_apart m d id e (partition_at_lem m (partition_of d id) (t.partitions id) e (v.picture.partitions id) f) a e.size b k
      (record { lent = l; bytes = refl }) (buffer_loan t id b k e f y)

  -- NO TWO LOANS SHARE A BYTE
  pub apart : (o q : Object) (a n b k : ℕ) → Loaned t o a n → Loaned t q b k → ((o ≡ q) × (a ≡ b) × (n ≡ k)) ⊎ ((a + n ≤ b) ⊎ (b + k ≤ a))
  apart o q a n b k x y = ⊎_elim same other (same_object o q)
    where
      same : o ≡ q → ((o ≡ q) × (a ≡ b) × (n ≡ k)) ⊎ ((a + n ≤ b) ⊎ (b + k ≤ a))
      same f =
          ⊎_elim (λ (g : (a ≡ b) × (n ≡ k)). inl (f, g.0, g.1)) (λ (g : (a + n ≤ b) ⊎ (b + k ≤ a)). inr g)
          (alike o a n b k x (subst (λ (u : Object). Loaned t u b k) (sym f) y))

      other : ¬ (o ≡ q) → ((o ≡ q) × (a ≡ b) × (n ≡ k)) ⊎ ((a + n ≤ b) ⊎ (b + k ≤ a))
      other f =
          let i = loan_in m d t v o a n x in
          let j = loan_in m d t v q b k y in
          inr (clear_parts (area_in d o) (area_in d q) a n b k
          (sound_clear d v.picture.region_slots v.picture.partition_slots v.picture.areas o q f) i.from i.upto j.from j.upto)

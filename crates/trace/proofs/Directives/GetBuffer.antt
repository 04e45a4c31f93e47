-- A get of a buffer: the front leaves the chain and is lent. Assumes nothing.
use Rattle.std.specs.Prelude.{Some}
use mathlib.Core.Path.{◌≡◌, refl, sym, ap, ◌∙◌, subst}
use mathlib.Core.Bool.{true}
use mathlib.Core.List.{List, ◌∷◌, []}
use mathlib.Core.Logic.{◌⊎◌, inl, inr}
use Prim.Native.Nat.{ℕ, ◌<◌, suc}
use native.Mathlib.Omega.{arith}
use lib.ListN.{get_or, length}
use lib.Dec.{eqb}
use borrow.Author.Tests.{eqb-false, eq-eqb, ne_eqb}
use Rattle.manager.specs.Record.{slot_of, partition_of, with_partition}
use Rattle.manager.specs.Result.{done, check, checked}
use Rattle.manager.specs.Lists as lists
use Rattle.manager.specs.Partition.{is_buffer, chain, after_get, gotten}
use Rattle.manager.proofs.Laws.Partition.Links.{get_chain, get_buffer_lem}
use Rattle.manager.proofs.Laws.Partition.Area.{get_length, get_outside, get_only}
use Rattle.manager.proofs.Laws.Partition.Live.{live_get, live_chain}
use Rattle.manager.proofs.Laws.Result.{Passed}
use Rattle.manager.proofs.Laws.Distinct.{on_in}
use Rattle.manager.specs.Partitions.{get_buffer}
use Rattle.manager.specs.declared.Manager.{Manager}
use Rattle.manager.specs.declared.Partition.{Partition}
use Rattle.manager.specs.declared.Call.TheVariants.{GetBuffer}
use Rattle.manager.specs.Lists.{In, Distinct}
use Rattle.manager.specs.declared.Status.TheVariants.{Unsatisfied}
use Rattle.trace.specs.Receipts.{Receipts, PartitionEntry, strike, with_buffers, reply_of}
use Rattle.trace.specs.Replies.{front, by_receipts}
use Rattle.trace.proofs.Invariant.{Only, PartitionIs, Inv}
use Rattle.trace.proofs.Frame.{partition_laid, partition_shaped}
use Rattle.trace.proofs.Clients.{NoLink, owned_no_link}
use Rattle.trace.proofs.Buffers.{strike_here, within_strike, strike_other, strike_length}
use Rattle.trace.proofs.Regions.Checks.{Kept, kept_checked, Right}
use Rattle.trace.proofs.Regions.Queue.{sound_inv}
use Rattle.trace.proofs.Partitions.Slot.{unlent_once, partition_entry_lem, on_partition_lem, outside, kept_done, free_unlent, put_live}
use Rattle.trace.proofs.Replies.Checks.{Answers, answers, at_partition}

-- the entry with one buffer more lent
abbrev lent_one : ℕ → PartitionEntry → PartitionEntry
lent_one a e = with_buffers (a ∷ e.lent) (strike a e.unlent) e

module _ (m : List ℕ) (p : Partition) (e : PartitionEntry) (is : PartitionIs m p e) (h : 0 < p.free) where
  -- the front is the first of those not lent
  front_first : e.unlent ≡ p.front ∷ chain (after_get m p) (gotten m p)
  front_first = sym is.chained ∙ get_chain m p (partition_laid m p e is) (live_chain m p is.sound) h

  struck : strike p.front e.unlent ≡ chain (after_get m p) (gotten m p)
  struck = ap (strike p.front) front_first ∙ strike_here p.front p.front (chain (after_get m p) (gotten m p)) refl

  front_within : In p.front e.unlent
  unfolding In
  front_within = rw front_first (inl refl)

  -- A LIVE PARTITION, WITH ITS FRONT LENT
  got_is : PartitionIs (after_get m p) (gotten m p) (lent_one p.front e)
  unfolding In Distinct
  got_is =
      record {
        named = is.named;
        name = is.name;
        start = is.start;
        bytes = is.bytes;
        size = is.size;
        sound = live_get m p is.sound h;
        chained = sym struck;
        once = (λ (w : In p.front e.lent). is.apart p.front w front_within, is.once);
        buffer = buffer;
        either = either;
        apart = apart;
        counted = omega (arith, is.counted, strike_length p.front e.unlent front_within);
      }
    where
      buffer : (a : ℕ) → (p.front ≡ a) ⊎ In a e.lent → is_buffer p a ≡ true
      buffer a (inl q) = subst (λ (x : ℕ). is_buffer p x ≡ true) q (get_buffer_lem m p (partition_laid m p e is) (live_chain m p is.sound) h)
      buffer a (inr w) = is.buffer a w

      chained_or : (a : ℕ) → In a (p.front ∷ chain (after_get m p) (gotten m p)) → ((p.front ≡ a) ⊎ In a e.lent) ⊎ In a (strike p.front e.unlent)
      chained_or a (inl q) = inl (inl q)
      chained_or a (inr w) = inr (rw struck w)

      either : (a : ℕ) → is_buffer p a ≡ true → ((p.front ≡ a) ⊎ In a e.lent) ⊎ In a (strike p.front e.unlent)
      either a b = go (is.either a b)
        where
          go : In a e.lent ⊎ In a e.unlent → ((p.front ≡ a) ⊎ In a e.lent) ⊎ In a (strike p.front e.unlent)
          go (inl w) = inl (inr w)
          go (inr w) = chained_or a (rw front_first at w)

      apart : (a : ℕ) → (p.front ≡ a) ⊎ In a e.lent → ¬ In a (strike p.front e.unlent)
      apart a (inl q) u = strike_other p.front a e.unlent (unlent_once m p e is) u (sym q)
      apart a (inr w) u = is.apart a w (within_strike p.front a e.unlent u)

  got_only : Only p.start p.length m (after_get m p)
  got_only =
      let s = partition_shaped m p e is in
      record { size = get_length m p; same = λ w n. get_outside m p s (live_chain m p is.sound) w (outside p s w n) h }

  -- only link words of buffers that were not lent differ
  got_words : (w : ℕ) → NoLink e.unlent w → get_or (after_get m p) w 0 ≡ get_or m w 0
  got_words w n =
      get_only m p (partition_shaped m p e is) (live_chain m p is.sound) w (λ a o. n a (rw is.chained at ((on_in a (chain m p)).0 o))) h

module _ (m : List ℕ) (d : Manager) (t : Receipts) (v : Inv m d t) (id : ℕ) where
  module _ (e : PartitionEntry) (q : t.partitions id ≡ Some e) (is : PartitionIs m (partition_of d id) e) (h : 0 < (partition_of d id).free) where
    act_kept : Kept (GetBuffer id) m t (done (after_get m (partition_of d id)) (with_partition d (slot_of id) (gotten m (partition_of d id))) (partition_of d id).front)
    act_kept =
        let p = partition_of d id in
        kept_done (GetBuffer id) m t _ (after_get m p) (with_partition d (slot_of id) (gotten m p)) p.front
        (on_partition_lem id e t (λ (x : PartitionEntry). lent_one p.front x) q)
        (put_live m d t v id e is (gotten m p) refl refl refl (after_get m p) (lent_one p.front e) (got_only m p e is h) (got_is m p e is h))
        (λ w o o'. got_words m p e is h w (owned_no_link m d t v id e q w o))

  -- A GET KEEPS THE PICTURE
  keeps_get : Kept (GetBuffer id) m t (get_buffer m d id)
  unfolding get_buffer lists.every Passed
  keeps_get =
      kept_checked (GetBuffer id) m d t v _ _ (sound_inv m d t v) refl
      (λ c. let s = partition_entry_lem m (partition_of d id) (t.partitions id) (v.picture.partitions id) c.0 in
      let n = eqb-false (partition_of d id).free 0 c.1.0 in
      act_kept s.0 s.1 s.2 (omega arith))

module _ (m : List ℕ) (p : Partition) (e : PartitionEntry) (is : PartitionIs m p e) where
  -- the front of the chain
  front_is : (d d' : Manager) (m' : List ℕ) (l : List ℕ) → e.unlent ≡ l
      → Answers m d (check (eqb p.free 0) Unsatisfied ∷ []) (done m' d' p.front) (front l)
  unfolding checked
  front_is d d' m' [] f = rw (eq-eqb p.free 0 (free_unlent m p e is ∙ ap length f))
  front_is d d' m' (a ∷ l) f =
      let n : p.free ≡ suc (length l) = free_unlent m p e is ∙ ap length f in
      let g = front_first m p e is (omega arith) in
      let h : p.front ≡ a = cc in
      rw (ne_eqb p.free 0 (λ z. omega arith), h)

-- IT IS ANSWERED AS THE RECEIPTS SAY
module _ (m : List ℕ) (d : Manager) (t : Receipts) (v : Inv m d t) where
  replies_get : (id : ℕ) → reply_of (get_buffer m d id) ≡ by_receipts (length m) t (GetBuffer id)
  unfolding get_buffer by_receipts
  replies_get id =
      answers m d _ _ _ (sound_inv m d t v)
      (at_partition m d (partition_of d id) (t.partitions id) (v.picture.partitions id)
      (λ p. check (eqb p.free 0) Unsatisfied ∷ []) (λ p. done (after_get m p) (with_partition d (slot_of id) (gotten m p)) p.front) _
      (λ e is q. front_is m (partition_of d id) e is d _ _ e.unlent refl))

  pub right : (id : ℕ) → Right (GetBuffer id) m t (get_buffer m d id)
  right id = record { kept = keeps_get m d t v id; replies = replies_get id }

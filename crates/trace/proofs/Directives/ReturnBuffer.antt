-- A return of a buffer: a buffer that is not on the chain is lent; it is struck from the loans and joins the chain at its rear. Assumes
-- nothing.
use Rattle.std.specs.Prelude.{Some}
use mathlib.Core.Path.{◌≡◌, refl, sym, ap, ◌∙◌, subst}
use mathlib.Core.Bool.{true, false, Bool, not, ◌&&◌}
use mathlib.Core.List.{List, [], ◌∷◌, ◌++◌}
use mathlib.Core.Logic.{◌⊎◌, inl, inr, ⊎_elim}
use Prim.Native.Nat.{ℕ}
use native.Mathlib.Omega.{arith}
use lib.ListN.{get_or, length-append, length}
use borrow.Author.Tests.{not-false}
use Rattle.manager.specs.Record.{slot_of, partition_of, with_partition}
use Rattle.manager.specs.Result.{done, check, checked}
use Rattle.manager.specs.Lists as lists
use Rattle.manager.specs.Partition.{is_buffer, is_free, chain, after_return, returned}
use Rattle.manager.proofs.Laws.Distinct.{on_off, same_or_not, on_in}
use Rattle.manager.proofs.Laws.Partition.Links.{return_chain}
use Rattle.manager.proofs.Laws.Partition.Area.{return_length, return_outside, return_only}
use Rattle.manager.proofs.Laws.Partition.Live.{live_return, live_chain}
use Rattle.manager.proofs.Laws.Result.{Passed}
use Rattle.manager.specs.Partitions.{return_buffer}
use Rattle.manager.specs.declared.Manager.{Manager}
use Rattle.manager.specs.declared.Partition.{Partition}
use Rattle.manager.specs.declared.Call.TheVariants.{ReturnBuffer}
use Rattle.manager.specs.Lists.{In}
use Rattle.manager.proofs.Laws.Appended.{by_case}
use Rattle.manager.specs.declared.Status.TheVariants.{InvalidAddress}
use Rattle.trace.specs.Receipts.{Receipts, PartitionEntry, strike, with_buffers, reply_of}
use Rattle.trace.specs.Replies.{yes, decided, listed, by_receipts}
use Rattle.trace.proofs.Invariant.{Only, PartitionIs, Inv}
use Rattle.trace.proofs.Frame.{partition_laid, partition_shaped}
use Rattle.trace.proofs.Buffers.{within_strike, strike_other, strike_keeps, strike_distinct, strike_length}
use Rattle.trace.proofs.Clients.{NoLink, owned_no_link}
use Rattle.trace.proofs.Regions.Picture.{update_here}
use Rattle.trace.proofs.Regions.Checks.{Kept, kept_checked, Right}
use Rattle.trace.proofs.Regions.Queue.{sound_inv}
use Rattle.trace.proofs.Partitions.Slot.{partition_entry_lem, keeping, on_partition_lem, outside, kept_done, put_live}
use Rattle.trace.proofs.Queue.Line.{true_false}
use Rattle.trace.proofs.Replies.Checks.{Answers, answers, at_partition}

-- a number added at the end of a list
last_within : (a : ℕ) (l : List ℕ) → In a (l ++ (a ∷ []))
unfolding In
last_within a [] = inl refl
last_within a (x ∷ l) = inr (last_within a l)

more_within : (b a : ℕ) (l : List ℕ) → In b l → In b (l ++ (a ∷ []))
unfolding In
more_within b a [] h = absurd h
more_within b a (x ∷ l) (inl e) = inl e
more_within b a (x ∷ l) (inr h) = inr (more_within b a l h)

within_more : (b a : ℕ) (l : List ℕ) → In b (l ++ (a ∷ [])) → (b ≡ a) ⊎ In b l
unfolding In
within_more b a [] (inl e) = inl (sym e)
within_more b a [] (inr h) = absurd h
within_more b a (x ∷ l) (inl e) = inr (inl e)
within_more b a (x ∷ l) (inr h) = ⊎_elim (λ (e : b ≡ a). inl e) (λ (k : In b l). inr (inr k)) (within_more b a l h)

-- the entry with one buffer less lent
abbrev lent_less : ℕ → PartitionEntry → PartitionEntry
lent_less a e = with_buffers (strike a e.lent) (e.unlent ++ (a ∷ [])) e

module _ (m : List ℕ) (p : Partition) (e : PartitionEntry) (is : PartitionIs m p e) (a : ℕ) (b : is_buffer p a ≡ true) (o : is_free m p a ≡ false) where
  -- a buffer that is not on the chain is lent
  off_lent : In a e.lent
  off_lent =
      ⊎_elim (λ (w : In a e.lent). w)
      (λ (w : In a e.unlent). absurd (on_off a (chain m p) ((on_in a (chain m p)).1 (rw (← is.chained) at w)) o))
      (is.either a b)

  -- A LIVE PARTITION, WITH A BUFFER OF IT BACK
  back_is : PartitionIs (after_return m p a) (returned p a) (lent_less a e)
  back_is =
      record {
        named = is.named;
        name = is.name;
        start = is.start;
        bytes = is.bytes;
        size = is.size;
        sound = live_return m p is.sound a b o;
        chained = return_chain m p (partition_laid m p e is) (live_chain m p is.sound) a b o ∙ ap (λ (l : List ℕ). l ++ (a ∷ [])) is.chained;
        once = strike_distinct a e.lent is.once;
        buffer = λ x w. is.buffer x (within_strike a x e.lent w);
        either = λ x y. ⊎_elim
            (λ (w : In x e.lent). ⊎_elim
            (λ (q : x ≡ a). inr (subst (λ (z : ℕ). In z (e.unlent ++ (a ∷ []))) (sym q) (last_within a e.unlent)))
            (λ (n : ¬ (x ≡ a)). inl (strike_keeps a x e.lent w n))
            (same_or_not x a))
            (λ (w : In x e.unlent). inr (more_within x a e.unlent w))
            (is.either x y);
        apart = λ x w u. ⊎_elim (strike_other a x e.lent is.once w) (is.apart x (within_strike a x e.lent w)) (within_more x a e.unlent u);
        counted = omega (arith, is.counted, strike_length a e.lent off_lent, length-append e.unlent (a ∷ []));
      }

  back_only : Only p.start p.length m (after_return m p a)
  back_only =
      let s = partition_shaped m p e is in
      record { size = return_length m p a; same = λ w n. return_outside m p s (live_chain m p is.sound) w (outside p s w n) a b }

  -- only link words of buffers that are not lent then differ
  back_words : (w : ℕ) → NoLink (e.unlent ++ (a ∷ [])) w → get_or (after_return m p a) w 0 ≡ get_or m w 0
  back_words w n =
      let l = n a (last_within a e.unlent) in
      return_only m p (partition_shaped m p e is) (live_chain m p is.sound) w a
      (λ x q. n x (more_within x a e.unlent (rw is.chained at ((on_in x (chain m p)).0 q)))) l.0 l.1

module _ (m : List ℕ) (d : Manager) (t : Receipts) (v : Inv m d t) (id a : ℕ) where
  module _ (e : PartitionEntry) (q : t.partitions id ≡ Some e) (is : PartitionIs m (partition_of d id) e)
      (b : is_buffer (partition_of d id) a ≡ true) (o : is_free m (partition_of d id) a ≡ false) where
    act_kept : Kept (ReturnBuffer id a) m t (done (after_return m (partition_of d id) a) (with_partition d (slot_of id) (returned (partition_of d id) a)) 0)
    act_kept =
        let p = partition_of d id in
        let after =
        put_live m d t v id e is (returned p a) refl refl refl (after_return m p a) (lent_less a e) (back_only m p e is a b o) (back_is m p e is a b o) in
        kept_done (ReturnBuffer id a) m t (keeping id (Some (lent_less a e)) t) (after_return m p a) (with_partition d (slot_of id) (returned p a)) 0
        (on_partition_lem id e t (λ (x : PartitionEntry). lent_less a x) q) after
        (λ w h h'. back_words m p e is a b o w
        (owned_no_link _ _ (keeping id (Some (lent_less a e)) t) after id (lent_less a e) (update_here id (Some (lent_less a e)) t.partitions) w h'))

  -- A RETURN KEEPS THE PICTURE
  keeps_return : Kept (ReturnBuffer id a) m t (return_buffer m d id a)
  unfolding return_buffer lists.every Passed
  keeps_return =
      kept_checked (ReturnBuffer id a) m d t v _ _ (sound_inv m d t v) refl
      (λ c. let s = partition_entry_lem m (partition_of d id) (t.partitions id) (v.picture.partitions id) c.0 in
      act_kept s.0 s.1 s.2 (not-false (is_buffer (partition_of d id) a) c.1.0) c.1.1.0)

module _ (m : List ℕ) (p : Partition) (e : PartitionEntry) (is : PartitionIs m p e) where
  -- a buffer that is not on the chain is lent
  lent_is : (a : ℕ) → listed a e.lent ≡ (is_buffer p a && not (is_free m p a))
  lent_is a =
      by_case (listed a e.lent) (λ b. b ≡ (is_buffer p a && not (is_free m p a)))
      (λ f. let w = (on_in a e.lent).0 f in
      rw (is.buffer a w) (by_case (is_free m p a) (λ b. true ≡ not b)
      (λ g. absurd (is.apart a w (subst (λ (l : List ℕ). In a l) is.chained ((on_in a (chain m p)).0 g)))) (λ g. refl)))
      (λ f. by_case (is_buffer p a) (λ b. false ≡ (b && not (is_free m p a)))
      (λ g. by_case (is_free m p a) (λ b. false ≡ not b) (λ h. refl)
      (λ h. absurd (true_false (listed a e.lent) ((on_in a e.lent).1 (off_lent m p e is a g h)) f)))
      (λ g. refl))

  returned_is : (d d' : Manager) (m' : List ℕ) (a : ℕ)
      → Answers m d (check (not (is_buffer p a)) InvalidAddress ∷ check (is_free m p a) InvalidAddress ∷ []) (done m' d' 0)
      (decided (check (not (listed a e.lent)) InvalidAddress ∷ []) (yes 0))
  unfolding checked decided
  returned_is d d' m' a = rw (lent_is a) (go (is_buffer p a) (is_free m p a))
    where
      go : (b f : Bool) → Answers m d (check (not b) InvalidAddress ∷ check f InvalidAddress ∷ []) (done m' d' 0)
          (decided (check (not (b && not f)) InvalidAddress ∷ []) (yes 0))
      go true true = refl
      go true false = refl
      go false f = refl

-- IT IS ANSWERED AS THE RECEIPTS SAY
module _ (m : List ℕ) (d : Manager) (t : Receipts) (v : Inv m d t) where
  replies_return : (id a : ℕ) → reply_of (return_buffer m d id a) ≡ by_receipts (length m) t (ReturnBuffer id a)
  unfolding return_buffer by_receipts
  replies_return id a =
      answers m d _ _ _ (sound_inv m d t v)
      (at_partition m d (partition_of d id) (t.partitions id) (v.picture.partitions id)
      (λ p. check (not (is_buffer p a)) InvalidAddress ∷ check (is_free m p a) InvalidAddress ∷ [])
      (λ p. done (after_return m p a) (with_partition d (slot_of id) (returned p a)) 0) _
      (λ e is q. returned_is m (partition_of d id) e is d _ _ a))

  pub right : (id a : ℕ) → Right (ReturnBuffer id a) m t (return_buffer m d id a)
  right id a = record { kept = keeps_return m d t v id a; replies = replies_return id a }

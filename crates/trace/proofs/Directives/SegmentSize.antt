-- The size of a segment: the length of the loan at the address, and nothing changes. Assumes nothing.
use mathlib.Core.Path.{◌≡◌, refl, ap}
use mathlib.Core.List.{List, [], ◌∷◌}
use Prim.Native.Nat.{ℕ, ◌*◌}
use lib.ListN.{length}
use lib.Dec.{eqb}
use Rattle.manager.specs.Record.{no_information, region_of}
use Rattle.manager.specs.Lists.{every}
use Rattle.manager.specs.Regions.{segment_size}
use Rattle.manager.specs.declared.Manager.{Manager}
use Rattle.manager.specs.declared.Call.TheVariants.{SegmentSize}
use Rattle.manager.specs.Result.{check, done}
use Rattle.manager.specs.Region.{held_at}
use Rattle.manager.specs.declared.Status.TheVariants.{InvalidAddress}
use Rattle.trace.specs.Receipts.{Receipts, unit, reply_of}
use Rattle.trace.specs.Replies.{yes, by_receipts}
use Rattle.trace.proofs.Invariant.{Inv}
use Rattle.trace.proofs.Regions.Checks.{Kept, kept_checked, Right, kept_answer}
use Rattle.trace.proofs.Regions.Queue.{sound_inv}
use Rattle.trace.proofs.Map.{shows, none_at}
use Rattle.trace.proofs.Replies.Checks.{test, acted, agree, answers, at_region}

module _ (m : List ℕ) (d : Manager) (t : Receipts) (v : Inv m d t) where
  keeps_size : (id a : ℕ) → Kept (SegmentSize id a) m t (segment_size m d id a)
  unfolding segment_size every
  keeps_size id a =
      kept_checked (SegmentSize id a) m d t v _ _ (sound_inv m d t v) refl (λ c. kept_answer (SegmentSize id a) m d t v _ no_information refl)

  replies_size : (id a : ℕ) → reply_of (segment_size m d id a) ≡ by_receipts (length m) t (SegmentSize id a)
  unfolding segment_size by_receipts
  replies_size id a =
      answers m d _ _ _ (sound_inv m d t v)
      (at_region m d (region_of d id) (t.regions id) (v.picture.regions id)
      (λ r. check (eqb (held_at m r a) 0) InvalidAddress ∷ []) (λ r. done m d (held_at m r a * r.page)) _
      (λ _ e is q p. agree (test (none_at m e is a) (λ z. acted (ap (λ (n : ℕ). yes (n * unit e)) ((shows m e is).held a))))))

  pub right : (id a : ℕ) → Right (SegmentSize id a) m t (segment_size m d id a)
  right id a = record { kept = keeps_size id a; replies = replies_size id a }

-- An ident of a partition: the id of the one with the name, and nothing changes. Assumes nothing.
use mathlib.Core.Path.{refl, ◌≡◌, sym, ap}
use mathlib.Core.List.{List}
use Prim.Native.Nat.{ℕ}
use lib.ListN.{length}
use lib.Dec.{leb}
use borrow.Author.Tests.{eqb-false}
use Rattle.manager.specs.Record.{slots}
use Rattle.manager.specs.Lists as lists
use Rattle.manager.specs.Partitions.{ident_partition, partition_named}
use Rattle.manager.specs.declared.Manager.{Manager}
use Rattle.manager.specs.declared.Call.TheVariants.{IdentPartition}
use Rattle.manager.proofs.Laws.Result.{Passed}
use Rattle.trace.specs.Receipts.{Receipts, reply_of}
use Rattle.trace.specs.Replies.{yes, partition_slot_of, by_receipts}
use Rattle.trace.proofs.Invariant.{Inv}
use Rattle.trace.proofs.Regions.Checks.{Kept, kept_checked, Right}
use Rattle.trace.proofs.Regions.Queue.{sound_inv}
use Rattle.trace.proofs.Partitions.Slot.{kept_done}
use Rattle.trace.proofs.Replies.Checks.{test, acted, agree, answers}
use Rattle.trace.proofs.Replies.Ids.{partition_slot_lem, partition_id_lem}

module _ (m : List ℕ) (d : Manager) (t : Receipts) (v : Inv m d t) where
  keeps_ident : (name : ℕ) → Kept (IdentPartition name) m t (ident_partition m d name)
  unfolding ident_partition lists.every Passed
  keeps_ident name = kept_checked (IdentPartition name) m d t v _ _ (sound_inv m d t v) refl (λ c. kept_done (IdentPartition name) m t t m d _ refl v (λ w h h'. refl))

  replies_ident : (name : ℕ) → reply_of (ident_partition m d name) ≡ by_receipts (length m) t (IdentPartition name)
  unfolding ident_partition by_receipts
  replies_ident name =
      answers m d _ _ _ (sound_inv m d t v)
      (agree (test refl (λ n.
      let e = partition_slot_lem m d t v.picture name (eqb-false name 0 n) in
      test (ap (leb slots) (sym e)) (λ z. acted (ap yes (partition_id_lem m d t v.picture (partition_named d name) (partition_slot_of t name) e z))))))

  pub right : (name : ℕ) → Right (IdentPartition name) m t (ident_partition m d name)
  right name = record { kept = keeps_ident name; replies = replies_ident name }

-- An ident of a region: the id of the one with the name, and nothing changes. Assumes nothing.
use mathlib.Core.Path.{◌≡◌, refl, ap, sym}
use mathlib.Core.List.{List}
use Prim.Native.Nat.{ℕ}
use lib.ListN.{length}
use borrow.Author.Tests.{eqb-false}
use lib.Dec.{leb}
use Rattle.manager.specs.Record.{slots, no_information}
use Rattle.manager.specs.Lists.{every}
use Rattle.manager.specs.Regions.{ident_region, region_named}
use Rattle.manager.specs.declared.Manager.{Manager}
use Rattle.manager.specs.declared.Call.TheVariants.{IdentRegion}
use Rattle.trace.specs.Receipts.{Receipts, reply_of}
use Rattle.trace.specs.Replies.{yes, region_slot_of, by_receipts}
use Rattle.trace.proofs.Invariant.{Inv}
use Rattle.trace.proofs.Regions.Checks.{Kept, kept_checked, Right, kept_answer}
use Rattle.trace.proofs.Regions.Queue.{sound_inv}
use Rattle.trace.proofs.Replies.Checks.{test, acted, agree, answers}
use Rattle.trace.proofs.Replies.Ids.{region_slot, region_id_lem}

module _ (m : List ℕ) (d : Manager) (t : Receipts) (v : Inv m d t) where
  keeps_ident : (name : ℕ) → Kept (IdentRegion name) m t (ident_region m d name)
  unfolding ident_region every
  keeps_ident name =
      kept_checked (IdentRegion name) m d t v _ _ (sound_inv m d t v) refl (λ c. kept_answer (IdentRegion name) m d t v _ no_information refl)

  replies_ident : (name : ℕ) → reply_of (ident_region m d name) ≡ by_receipts (length m) t (IdentRegion name)
  unfolding ident_region by_receipts
  replies_ident name =
      answers m d _ _ _ (sound_inv m d t v)
      (agree (test refl (λ n.
      let e = region_slot m d t v.picture name (eqb-false name 0 n) in
      test (ap (leb slots) (sym e)) (λ z. acted (ap yes (region_id_lem m d t v.picture (region_named d name) (region_slot_of t name) e z))))))

  pub right : (name : ℕ) → Right (IdentRegion name) m t (ident_region m d name)
  right name = record { kept = keeps_ident name; replies = replies_ident name }

-- A return: the loan is struck, and then the region's queue is served. Assumes nothing.
use Rattle.std.specs.Prelude.{Some}
use mathlib.Core.Path.{◌≡◌, refl, sym, subst, ap, ◌∙◌}
use mathlib.Core.Bool.{false}
use mathlib.Core.List.{List, [], ◌∷◌}
use Prim.Native.Nat.{ℕ}
use lib.Dec.{eqb}
use lib.ListN.{length}
use Rattle.manager.specs.Record.{region_of}
use Rattle.manager.specs.Lists.{every}
use Rattle.manager.specs.Region.{held_at, changed}
use Rattle.manager.specs.Serve.{Served, serve, from_served}
use Rattle.manager.specs.Regions.{return_segment}
use Rattle.manager.specs.declared.Manager.{Manager}
use Rattle.manager.specs.declared.Region.{Region}
use Rattle.manager.specs.declared.Call.TheVariants.{ReturnSegment}
use Rattle.manager.proofs.Laws.Result.{Passed}
use Rattle.manager.specs.Result.{check}
use Rattle.manager.specs.declared.Notice.{Notice}
use Rattle.manager.specs.declared.Status.TheVariants.{InvalidAddress}
use Rattle.trace.specs.Loans.{Lent}
use Rattle.trace.specs.Receipts.{Receipts, RegionEntry, give_back, reply_of}
use Rattle.trace.specs.Replies.{tells, by_receipts}
use Rattle.trace.proofs.Invariant.{RegionIs, region_for, Inv}
use Rattle.trace.proofs.Map.{shows, lent_held, none_at}
use Rattle.trace.proofs.Regions.Checks.{Kept, kept_checked, Right}
use Rattle.trace.proofs.Regions.Live.{slot_entry_lem}
use Rattle.trace.proofs.Regions.Picture.{on_region_lem}
use Rattle.trace.proofs.Regions.Queue.{sound_inv}
use Rattle.trace.proofs.Regions.Stepped.{step_served, kept_served}
use Rattle.trace.proofs.Replies.Checks.{test, acted, agree, answers, at_region}

-- what a return does in a region, once its checks pass
abbrev returning : List ℕ → Manager → ℕ → ℕ → Region → Served
returning m d id a r = serve (changed m r a 0) d id

module _ (m : List ℕ) (d : Manager) (t : Receipts) (v : Inv m d t) (id a : ℕ) where
  -- what it keeps
  act_kept : (e : RegionEntry) → t.regions id ≡ Some e → RegionIs m e → (k : ℕ) → Lent e.loans a k
      → Kept (ReturnSegment id a) m t (from_served 0 (returning m d id a (region_for e)))
  act_kept e q is k x = kept_served m d t v id e q _ _ ((shows m e is).returned a k x) (ReturnSegment id a) 0 (on_region_lem id e t (give_back a) q)

  -- A RETURN KEEPS THE PICTURE
  keeps_return : Kept (ReturnSegment id a) m t (return_segment m d id a)
  unfolding return_segment every Passed
  keeps_return =
      kept_checked (ReturnSegment id a) m d t v _ _ (sound_inv m d t v) refl
      (λ c. let s = slot_entry_lem m (region_of d id) (t.regions id) (v.picture.regions id) c.0 in
      let h = lent_held m s.0 s.2.is a (subst (λ (r : Region). eqb (held_at m r a) 0 ≡ false) s.2.region c.1.0) in
      subst (λ (r : Region). Kept (ReturnSegment id a) m t (from_served 0 (returning m d id a r))) (sym s.2.region)
      (act_kept s.0 s.1 s.2.is _ h))

  -- IT IS ANSWERED AS THE RECEIPTS SAY
  replies_return : reply_of (return_segment m d id a) ≡ by_receipts (length m) t (ReturnSegment id a)
  unfolding return_segment by_receipts
  replies_return =
      answers m d _ _ _ (sound_inv m d t v)
      (at_region m d (region_of d id) (t.regions id) (v.picture.regions id)
      (λ r. check (eqb (held_at m r a) 0) InvalidAddress ∷ []) (λ r. from_served 0 (returning m d id a r)) _
      (λ _ e is q p. agree (test (none_at m e is a) (λ h.
      let s = (shows m e is).returned a _ (lent_held m e is a (none_at m e is a ∙ h)) in
      acted (ap (λ (ns : List Notice). tells 0 ns) (step_served m d t v id e q _ _ s).grants)))))

  pub right : Right (ReturnSegment id a) m t (return_segment m d id a)
  right = record { kept = keeps_return; replies = replies_return }

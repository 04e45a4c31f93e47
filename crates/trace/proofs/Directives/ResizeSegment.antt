-- A resize: the loan has the new size where it can have it, and then the region's queue is served; else 13. The value
-- is the old length. Assumes nothing.
use Rattle.std.specs.Prelude.{Some}
use mathlib.Core.Path.{◌≡◌, refl, sym, subst, ap, ◌∙◌}
use mathlib.Core.Bool.{Bool, false, cond}
use mathlib.Core.List.{List, [], ◌∷◌}
use Prim.Native.Nat.{ℕ, ◌*◌}
use lib.Dec.{eqb}
use lib.ListN.{length}
use Rattle.manager.specs.Record.{region_of}
use Rattle.manager.specs.Result.{Result, replied, check}
use Rattle.manager.specs.Lists.{every}
use Rattle.manager.specs.Region.{held_at, can_have, changed, pages_asked}
use Rattle.manager.specs.Serve.{serve, from_served}
use Rattle.manager.specs.Regions.{resize_segment}
use Rattle.manager.specs.declared.Manager.{Manager}
use Rattle.manager.specs.declared.Region.{Region}
use Rattle.manager.specs.declared.Notice.{Notice}
use Rattle.manager.specs.declared.Call.{Call}
use Rattle.manager.specs.declared.Call.TheVariants.{ResizeSegment}
use Rattle.manager.specs.declared.Status.TheVariants.{Unsatisfied, InvalidAddress}
use Rattle.manager.proofs.Laws.Appended.{by_case}
use Rattle.manager.proofs.Laws.Result.{Passed}
use Rattle.trace.specs.Loans.{Lent, amend, pages_at}
use Rattle.trace.specs.Receipts.{Receipts, RegionEntry, refit, pages_over, reply_of, unit}
use Rattle.trace.specs.Queue.{queue_of}
use Rattle.trace.specs.Replies.{grants_in, can_have_in, tells, resizes, by_receipts}
use Rattle.trace.proofs.Invariant.{region_for, RegionIs, Inv}
use Rattle.trace.proofs.Map.{shows, lent_held, none_at}
use Rattle.trace.proofs.Regions.Checks.{Kept, kept_refused, kept_checked, Right}
use Rattle.trace.proofs.Regions.Live.{slot_entry_lem}
use Rattle.trace.proofs.Regions.Picture.{on_region_lem}
use Rattle.trace.proofs.Regions.Queue.{sound_inv}
use Rattle.trace.proofs.Regions.Stepped.{step_served, kept_served}
use Rattle.trace.proofs.Replies.Checks.{rest, same, test, acted, agree, answers, at_region}

-- what a resize does in a region, once its checks pass
abbrev resized : List ℕ → Manager → ℕ → ℕ → Region → ℕ → Bool → Result
resized m d id a r k b =
    cond b (from_served (held_at m r a * r.page) (serve (changed m r a k) d id)) (replied m d Unsatisfied (held_at m r a * r.page))

abbrev resizing : List ℕ → Manager → ℕ → ℕ → Region → ℕ → Result
resizing m d id a r k = resized m d id a r k (can_have m r a k)

module _ (m : List ℕ) (d : Manager) (t : Receipts) (v : Inv m d t) (id a size : ℕ) where
  abbrev asks : Call
  asks = ResizeSegment id a size

  module _ (e : RegionEntry) (q : t.regions id ≡ Some e) (is : RegionIs m e) (j : ℕ) (x : Lent e.loans a j) where
    -- what it keeps
    act_kept : Kept asks m t (resizing m d id a (region_for e) (pages_over e size))
    act_kept =
        rw ((shows m e is).can_have_lem a size)
        (by_case (can_have_in e a size) (λ (b : Bool). Kept asks m t (resized m d id a (region_for e) (pages_over e size) b))
        (λ h. kept_served m d t v id e q _ _ ((shows m e is).resized a j size x h) asks _ (on_region_lem id e t (refit a size) q))
        (λ h. kept_refused asks m d t v Unsatisfied _ refl))

    -- what it is answered
    act_replies : reply_of (resizing m d id a (region_for e) (pages_over e size))
        ≡ resizes (can_have_in e a size) (pages_at a e.loans * unit e) (grants_in e (amend a (pages_over e size) e.loans) (queue_of id e t))
    act_replies =
        rw ((shows m e is).can_have_lem a size, ← ((shows m e is).held a))
        (by_case (can_have_in e a size)
        (λ (b : Bool). reply_of (resized m d id a (region_for e) (pages_over e size) b)
        ≡ resizes b (held_at m (region_for e) a * unit e) (grants_in e (amend a (pages_over e size) e.loans) (queue_of id e t)))
        (λ h. ap (λ (ns : List Notice). tells (held_at m (region_for e) a * unit e) ns) (step_served m d t v id e q _ _ ((shows m e is).resized a j size x h)).grants)
        (λ h. refl))

  -- A RESIZE KEEPS THE PICTURE
  keeps_resize : Kept asks m t (resize_segment m d id a size)
  unfolding resize_segment every Passed
  keeps_resize =
      kept_checked asks m d t v _ _ (sound_inv m d t v) refl
      (λ c. let s = slot_entry_lem m (region_of d id) (t.regions id) (v.picture.regions id) c.1.0 in
      let h = lent_held m s.0 s.2.is a (subst (λ (r : Region). eqb (held_at m r a) 0 ≡ false) s.2.region c.1.1.0) in
      subst (λ (r : Region). Kept asks m t (resizing m d id a r (pages_asked r size))) (sym s.2.region)
      (rw ((shows m s.0 s.2.is).asked size) (act_kept s.0 s.1 s.2.is _ h)))

  -- IT IS ANSWERED AS THE RECEIPTS SAY
  replies_resize : reply_of (resize_segment m d id a size) ≡ by_receipts (length m) t asks
  unfolding resize_segment by_receipts
  replies_resize =
      answers m d _ _ _ (sound_inv m d t v)
      (agree (same (rest
      (at_region m d (region_of d id) (t.regions id) (v.picture.regions id)
      (λ r. check (eqb (held_at m r a) 0) InvalidAddress ∷ []) (λ r. resizing m d id a r (pages_asked r size)) _
      (λ _ e is q p. agree (test (none_at m e is a) (λ h. acted
      (rw ((shows m e is).asked size) (act_replies e q is _ (lent_held m e is a (none_at m e is a ∙ h)))))))))))

  pub right : Right asks m t (resize_segment m d id a size)
  right = record { kept = keeps_resize; replies = replies_resize }

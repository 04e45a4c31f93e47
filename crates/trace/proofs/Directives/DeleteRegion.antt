-- A delete of a region with nothing held: nobody waits for it, and its slot is emptied, with the next generation. Assumes nothing.
use Rattle.std.specs.Prelude.{None, Some}
use mathlib.Core.Path.{◌≡◌, refl, sym, ◌∙◌, subst}
use mathlib.Core.Bool.{false}
use mathlib.Core.List.{List, [], ◌∷◌}
use mathlib.Core.Logic.{inl, inr}
use Prim.Native.Nat.{ℕ, ◌+◌}
use native.Mathlib.Omega.{arith}
use lib.ListN.{length}
use Rattle.manager.specs.Record.{no_region, emptied_region, region_of, slot_of, generation_of, with_region}
use Rattle.manager.specs.Result.{done, check}
use Rattle.manager.specs.Lists as lists
use Rattle.manager.specs.Lists.{In}
use Rattle.manager.specs.Region.{any_held}
use Rattle.manager.specs.Regions.{delete_region}
use Rattle.manager.specs.declared.Manager.{Manager}
use Rattle.manager.specs.declared.Region.{Region}
use Rattle.manager.specs.declared.Call.TheVariants.{DeleteRegion}
use Rattle.manager.specs.declared.Status.TheVariants.{Successful, ResourceInUse}
use Rattle.manager.proofs.Laws.Ids.{id_back, Live, live_object}
use Rattle.manager.proofs.Laws.Result.{Passed}
use Rattle.manager.proofs.Laws.Areas.{no_area_lem}
use Rattle.trace.specs.Loans.{Loan}
use Rattle.trace.specs.Receipts.{Receipts, RegionEntry, Wait, deleted, reply_of, with_region_deletes}
use Rattle.trace.specs.Replies.{lends_any, by_receipts}
use Rattle.trace.proofs.Map.{shows}
use Rattle.trace.proofs.Invariant.{region_for, RegionSlot, RegionSlotIs, empty, Inv, Picture, with_waits_lem}
use Rattle.trace.proofs.Frame.{only_refl}
use Rattle.trace.proofs.Slots.{Now, now_same, deleted_other, slot_emptied, region_now_lem}
use Rattle.trace.proofs.Areas.{area_in, areas_no_region}
use Rattle.trace.proofs.Names.{names_none}
use Rattle.trace.proofs.Clients.{RegionAt}
use Rattle.trace.proofs.Regions.Checks.{note_done, Kept, kept_words, kept_checked, Right}
use Rattle.trace.proofs.Regions.Live.{slot_entry_lem}
use Rattle.trace.proofs.Regions.Put.{region_gone, put_region}
use Rattle.trace.proofs.Regions.Lending.{NoWait, none_lent, waits_registered}
use Rattle.trace.proofs.Regions.Queue.{sound_inv}
use Rattle.trace.proofs.Regions.Picture.{registering}
use Rattle.trace.proofs.Replies.Checks.{test, acted, agree, answers, at_region}

-- nothing is lent
lends_none : (l : List Loan) → lends_any l ≡ false → l ≡ []
lends_none [] e = refl
lends_none (x ∷ l) e = let z : ◌≡◌ {A = ℕ} 0 1 = cc in absurd (omega arith)

module _ (m : List ℕ) (d : Manager) (t : Receipts) (v : Inv m d t) (id : ℕ) where
  module _ (e : RegionEntry) (q : t.regions id ≡ Some e) (at : RegionAt m (region_of d id) e) (h : any_held m (region_for e) ≡ false) where
    slot : Live (λ (r : Region). r.name) (λ r. r.generation) no_region d.regions id
    slot =
        live_object (λ r. r.name) (λ r. r.generation) no_region d.regions refl id
        (subst (λ (r : Region). ¬ (r.name ≡ 0)) (sym at.region) at.is.named)

    now : Now t.region_deletes id
    now = region_now_lem m d t v.picture id e q

    nobody : NoWait t id
    nobody = none_lent d t v.waits id e q (lends_none e.loans (sym (shows m e at.is).any ∙ h))

    -- its slot then, and the deletes
    abbrev emptied : Region
    emptied = emptied_region ((region_of d id).generation + 1)

    abbrev deletes : ℕ → ℕ
    deletes = deleted id t.region_deletes

    picture : Picture m (with_region d (slot_of id) emptied) (with_region_deletes deletes (registering id None t))
    picture =
        put_region m d t v.picture id (slot_of id) (generation_of id) now.within (id_back id now.within) emptied (inr slot.same) (inl refl) m None deletes
        (only_refl 0 0 m) (λ x n. no_area_lem (area_in d x))
        (names_none (λ r. r.name) no_region d.regions v.picture.region_slots v.picture.region_names (slot_of id) now.within emptied refl)
        (areas_no_region d v.picture.region_slots v.picture.partition_slots (slot_of id) now.within v.picture.areas ((region_of d id).generation + 1))
        (subst (λ (r : Region). RegionSlot m r None)
        (sym (region_gone m d t v.picture id (slot_of id) (generation_of id) now.within (id_back id now.within) emptied refl)) (empty 0))
        (slot_emptied (λ r. r.name) (λ r. r.generation) emptied_region no_region (region_of d id) id t.region_deletes
        (subst (λ (r : Region). RegionSlotIs r (t.region_deletes (slot_of id))) (sym slot.is) (v.picture.region_is (slot_of id) now.within))
        (subst (λ (r : Region). ¬ (r.name ≡ 0)) (sym at.region) at.is.named) (λ g. refl) (λ g. refl))
        (deleted_other id t.region_deletes)

    -- nobody waits in its slot
    same : (w : Wait) → In w t.waits → deletes (slot_of w.id) ≡ t.region_deletes (slot_of w.id)
    same w i =
        deleted_other id t.region_deletes (slot_of w.id)
        (λ f. nobody w i (now_same t.region_deletes w.id id (v.waits.each w i).id_now_lem now.is f))

    act_kept : Kept (DeleteRegion id) m t (done m (with_region d (slot_of id) emptied) 0)
    act_kept =
        kept_words (DeleteRegion id) m t (done m (with_region d (slot_of id) emptied) 0) refl refl
        (rw (note_done (DeleteRegion id) m (with_region d (slot_of id) emptied) t 0 Successful refl)
        (with_waits_lem picture (waits_registered t id None nobody deletes same d (with_region d (slot_of id) emptied) refl v.waits)))

  -- A DELETE KEEPS THE PICTURE
  keeps_delete : Kept (DeleteRegion id) m t (delete_region m d id)
  unfolding delete_region lists.every Passed
  keeps_delete =
      kept_checked (DeleteRegion id) m d t v _ _ (sound_inv m d t v) refl
      (λ c. let s = slot_entry_lem m (region_of d id) (t.regions id) (v.picture.regions id) c.0 in
      act_kept s.0 s.1 s.2 (subst (λ (r : Region). any_held m r ≡ false) s.2.region c.1.0))

-- IT IS ANSWERED AS THE RECEIPTS SAY
module _ (m : List ℕ) (d : Manager) (t : Receipts) (v : Inv m d t) where
  replies_delete : (id : ℕ) → reply_of (delete_region m d id) ≡ by_receipts (length m) t (DeleteRegion id)
  unfolding delete_region by_receipts
  replies_delete id =
      answers m d _ _ _ (sound_inv m d t v)
      (at_region m d (region_of d id) (t.regions id) (v.picture.regions id)
      (λ r. check (any_held m r) ResourceInUse ∷ []) (λ r. done m (with_region d (slot_of id) (emptied_region (r.generation + 1))) 0) _
      (λ _ e is q p. agree (test (shows m e is).any (λ z. acted refl))))

  pub right : (id : ℕ) → Right (DeleteRegion id) m t (delete_region m d id)
  right id = record { kept = keeps_delete m d t v id; replies = replies_delete id }

-- A create: the lowest empty slot that is not spent has the region that was asked for, its map one free segment, its entry no loans. Its area meets no other,
-- so all other objects stay as they were, and nobody waits for it. Assumes nothing.
use Rattle.std.specs.Prelude.{None, Some}
use mathlib.Core.Path.{◌≡◌, refl, sym, ap, subst}
use mathlib.Core.Bool.{true, false}
use mathlib.Core.Logic.{inl, inr}
use mathlib.Core.List.{List, []}
use Prim.Native.Nat.{ℕ, ◌+◌, ◌*◌, ◌≤◌, ◌<◌}
use native.Mathlib.Omega.{arith}
use lib.ListN.{length, get_or}
use lib.Dec.{eqb, leb, ltb}
use borrow.Author.Tests.{eqb-true, eqb-false, ltb-false, leb-false}
use Rattle.manager.specs.Record.{slots, no_region, emptied_region, unspent, region_of, with_region}
use Rattle.manager.specs.Result.{done}
use Rattle.manager.specs.Lists as lists
use Rattle.manager.specs.Region.{opened}
use Rattle.manager.specs.Regions.{overlaps, unspent_region, region_named, region_generation, region_id, create_region}
use Rattle.manager.specs.declared.Manager.{Manager}
use Rattle.manager.specs.declared.Region.{Region}
use Rattle.manager.specs.declared.Order.{Order}
use Rattle.manager.specs.declared.Call.{Call}
use Rattle.manager.specs.declared.Call.TheVariants.{CreateRegion}
use Rattle.manager.specs.declared.Status.TheVariants.{Successful}
use Rattle.manager.proofs.Laws.Lists.{and_first, index_passes}
use Rattle.manager.proofs.Laws.Ids.{slot_empty}
use Rattle.manager.proofs.Laws.Result.{Passed}
use Rattle.manager.proofs.Laws.Areas.{area_for}
use Rattle.trace.specs.Receipts.{Receipts, RegionEntry, pages_in, reply_of}
use Rattle.trace.specs.Trace.{Owned}
use Rattle.trace.specs.Replies.{yes, new_region_slot, by_receipts}
use Rattle.trace.proofs.Invariant.{Only, region_as, region_for, RegionSlot, live, Inv, Picture, with_waits_lem}
use Rattle.trace.proofs.Frame.{map_area}
use Rattle.trace.proofs.Clients.{map_stays}
use Rattle.trace.proofs.Areas.{overlaps_clear, areas_new_region}
use Rattle.trace.proofs.Names.{names_new}
use Rattle.trace.proofs.Regions.Checks.{note_done, Kept, kept_checked, Right}
use Rattle.trace.proofs.Slots.{slot_filled, region_unnamed}
use Rattle.trace.proofs.Regions.Put.{region_there, put_region}
use Rattle.trace.proofs.Regions.Picture.{update_here, registering}
use Rattle.trace.proofs.Regions.Lending.{none_there, waits_registered}
use Rattle.trace.proofs.Regions.Queue.{sound_inv}
use Rattle.trace.proofs.Map.{opens, Steps}
use Rattle.trace.proofs.Replies.Checks.{same, test, acted, agree, answers}
use Rattle.trace.proofs.Replies.Ids.{new_region_lem, region_slot, region_id_lem, area_asked}

-- ---- in a slot that is empty

module _ (m : List ℕ) (d : Manager) (t : Receipts) (v : Inv m d t) (name start bytes page : ℕ) (order : Order) where
  abbrev asks : Call
  asks = CreateRegion name start bytes page order

  abbrev asked : RegionEntry
  asked = record { name = name; start = start; bytes = bytes; page = page; order = order; loans = [] }

  -- the slot that it takes, its generation, and the id that it has then
  abbrev slot : ℕ
  slot = unspent_region d

  abbrev generation : ℕ
  generation = region_generation d slot

  abbrev id : ℕ
  id = region_id d slot

  abbrev memory : List ℕ
  memory = opened m (region_for asked)

  abbrev manager : Manager
  manager = with_region d slot (region_as generation asked)

  module _ (within : slot < slots) (step : Steps m asked memory []) (new : ltb (region_named d name) slots ≡ false)
      (clear : overlaps d (area_for (region_for asked)) ≡ false) where
    only : Only start bytes m memory
    only = map_area memory asked step.is m memory step.only

    free_slot : unspent (get_or d.regions slot no_region).name generation ≡ true
    free_slot = index_passes no_region (λ r. unspent r.name r.generation) d.regions (omega (arith, v.picture.region_slots))

    unnamed : (get_or d.regions slot no_region).name ≡ 0
    unnamed = eqb-true _ 0 (and_first (eqb (get_or d.regions slot no_region).name 0) _ free_slot)

    not_there : t.regions id ≡ None
    not_there =
        region_unnamed m (region_of d id) (t.regions id) (v.picture.regions id)
        (ap (λ (r : Region). r.name) (slot_empty (λ r. r.name) (λ r. r.generation) no_region d.regions slot within unnamed generation))

    picture : Picture memory manager (registering id (Some asked) t)
    picture =
        let nr = v.picture.region_slots in
        let np = v.picture.partition_slots in
        put_region m d t v.picture id slot generation within refl (region_as generation asked) (inl unnamed) (inr refl) memory (Some asked) t.region_deletes only
        (λ x n. overlaps_clear d nr np (area_for (region_for asked)) clear x)
        (names_new (λ r. r.name) no_region d.regions nr v.picture.region_names slot within (region_as generation asked) new)
        (areas_new_region d nr np slot within v.picture.areas (region_as generation asked) clear)
        (subst (λ (r : Region). RegionSlot memory r (Some asked))
        (sym (region_there m d t v.picture id slot generation within refl (region_as generation asked) step.is.named refl)) (live generation asked step.is))
        (slot_filled (λ r. r.name) (λ r. r.generation) emptied_region no_region _ _ _ (v.picture.region_is slot within) free_slot refl step.is.named)
        (λ j n. refl)

    act_kept : Kept asks m t (done memory manager id)
    act_kept =
        let u = registering id (Some asked) t in
        let n = note_done asks memory manager t id Successful refl in
        let after : Inv memory manager u =
        with_waits_lem picture (waits_registered t id (Some asked) (none_there d t v.waits id not_there) t.region_deletes (λ w h. refl) d manager refl v.waits) in
        record {
          inv = rw n after;
          stays = λ w h h'. map_stays memory manager u after id asked (update_here id (Some asked) t.regions) m memory step.only w
              (subst (λ (x : Receipts). Owned x w) n h');
          undamaged = refl;
        }

  -- A CREATE KEEPS THE PICTURE
  keeps_create : Kept asks m t (create_region m d name start bytes page order)
  unfolding create_region lists.every Passed
  keeps_create =
      kept_checked asks m d t v _ _ (sound_inv m d t v) refl
      (λ c. let named = eqb-false name 0 c.0 in
      let started = eqb-false start 0 c.1.1.0 in
      let upto = ltb-false (4 * length m) (start + bytes) c.1.1.1.0 in
      let page_some : 1 ≤ page = (let y = eqb-false page 0 c.1.1.1.1.0 in omega arith) in
      let page_most = ltb-false 4096 page c.1.1.1.1.1.0 in
      let some_page : 1 ≤ pages_in asked = (let y = eqb-false (pages_in asked) 0 c.1.1.1.1.1.1.0 in omega arith) in
      act_kept (leb-false slots slot c.1.1.1.1.1.1.1.1.0) (opens m asked refl named started upto page_some page_most some_page)
      c.1.0 c.1.1.1.1.1.1.1.0)

-- IT IS ANSWERED AS THE RECEIPTS SAY
module _ (m : List ℕ) (d : Manager) (t : Receipts) (v : Inv m d t) where
  replies_create : (name start bytes page : ℕ) (order : Order)
      → reply_of (create_region m d name start bytes page order) ≡ by_receipts (length m) t (CreateRegion name start bytes page order)
  unfolding create_region by_receipts
  replies_create name start bytes page order =
      let e = new_region_lem m d t v.picture in
      answers m d _ _ _ (sound_inv m d t v)
      (agree (test refl (λ u.
      test (ap (λ (i : ℕ). ltb i slots) (sym (region_slot m d t v.picture name (eqb-false name 0 u)))) (λ w.
      same (same (same (same (same
      (test (area_asked m d t v.picture (record { start = start; length = bytes })) (λ z.
      test (ap (leb slots) (sym e)) (λ z. acted (ap yes (region_id_lem m d t v.picture (unspent_region d) (new_region_slot t) e z)))))))))))))

  pub right : (name start bytes page : ℕ) (order : Order) → Right (CreateRegion name start bytes page order) m t (create_region m d name start bytes page order)
  right name start bytes page order = record { kept = keeps_create m d t v name start bytes page order; replies = replies_create name start bytes page order }

-- The clock tick: first the waits that are due are told, and the others go on, a tick later; then, if anyone was told, every slot's queue is
-- served. Assumes nothing.
use mathlib.Core.Path.{◌≡◌, refl, sym, ap, ◌∙◌, subst}
use mathlib.Core.List.{List, [], ◌∷◌, ◌++◌}
use Prim.Native.Nat.{ℕ}
use lib.ListN.{length}
use Rattle.manager.specs.Record.{slots}
use Rattle.manager.specs.Lists.{every}
use Rattle.manager.specs.Queue.{after_tick}
use Rattle.manager.specs.Serve.{Served, behind, serve_after, from_served}
use Rattle.manager.specs.Regions.{tick}
use Rattle.manager.specs.Result.{checked}
use Rattle.manager.specs.declared.Manager.{Manager}
use Rattle.manager.specs.declared.Notice.{Notice}
use Rattle.manager.specs.declared.Call.TheVariants.{Tick}
use Rattle.trace.specs.Receipts.{Receipts, with_waits, all_later, reply_of}
use Rattle.trace.specs.Replies.{tells, timeouts, ticked, grants_after, by_receipts, note}
use Rattle.trace.specs.Claims.{Rounds, slots_from, Ticked}
use Rattle.trace.proofs.Invariant.{Inv, with_waits_lem}
use Rattle.trace.proofs.Notices.{noticed_append, owned_waits, owned_still}
use Rattle.trace.proofs.Regions.Checks.{Kept, kept_checked, Right}
use Rattle.trace.proofs.Regions.Picture.{any_queue}
use Rattle.trace.proofs.Regions.Queue.{sound_inv}
use Rattle.trace.proofs.Regions.Rounds.{SlotsOutcome, slots_after, after_served}
use Rattle.trace.proofs.Queue.Line.{keep}
use Rattle.trace.proofs.Queue.Ticks.{not_due, tick_notices, tick_receipts, waits_tick}
use Rattle.trace.proofs.Replies.Checks.{answers}

module _ (m : List ℕ) (d : Manager) (t : Receipts) (v : Inv m d t) where
  -- what it does, by the notices of those that it sends away
  abbrev ticking : List Notice → Served
  ticking ns = behind ns (serve_after ns m (after_tick d))

  -- the invariant a tick later, without those who were told
  aged : Inv m (after_tick d) (ticked t)
  unfolding after_tick
  aged =
      rw (tick_receipts d t v.waits)
      (with_waits_lem (any_queue m d t (after_tick d).waiters (all_later (keep not_due t.waits)) v.picture) (waits_tick d t v.waits))

  -- and what serving leaves then
  outcome : SlotsOutcome (slots_after (timeouts t)) (grants_after (timeouts t) (ticked t)) m (ticked t) (serve_after (timeouts t) m (after_tick d))
  outcome = after_served (timeouts t) m (after_tick d) (ticked t) aged

  act_kept : Kept Tick m t (from_served 0 (ticking (timeouts t)))
  unfolding note
  act_kept =
      let u = with_waits (all_later t.waits) t in
      record {
        inv = rw (noticed_append (timeouts t) (serve_after (timeouts t) m (after_tick d)).notices u) outcome.inv;
        stays = λ w o _. outcome.stays w (owned_still (timeouts t) u w (owned_waits (all_later t.waits) t w o));
        undamaged = refl;
      }

  -- THE TICK KEEPS THE INVARIANT
  keeps_tick : Kept Tick m t (tick m d)
  unfolding tick every
  keeps_tick =
      kept_checked Tick m d t v [] _ (sound_inv m d t v) refl (λ c.
      subst (λ (ns : List Notice). Kept Tick m t (from_served 0 (ticking ns))) (sym (tick_notices d t v.waits)) act_kept)

  -- IT IS ANSWERED AS THE RECEIPTS SAY
  replies_tick : reply_of (tick m d) ≡ by_receipts (length m) t Tick
  unfolding tick by_receipts checked
  replies_tick =
      answers m d [] _ _ (sound_inv m d t v)
      (ap (λ (ns : List Notice). tells 0 (ticking ns).notices) (tick_notices d t v.waits) ∙ ap (λ (gs : List Notice). tells 0 (timeouts t ++ gs)) outcome.notices)

  pub right : Right Tick m t (tick m d)
  right = record { kept = keeps_tick; replies = replies_tick }

  -- ITS NOTICES ARE THE ROUNDS OF DEMAND 3
  pub ticked_by : Ticked t (by_receipts (length m) t Tick).notices
  unfolding by_receipts
  ticked_by =
      record {
        grants = grants_after (timeouts t) (ticked t);
        notices = refl;
        nobody = λ h. ap (λ (ns : List Notice). grants_after ns (ticked t)) h;
        rounds = λ h. subst (λ (is : List ℕ). Rounds is (ticked t) (grants_after (timeouts t) (ticked t))) (every_slot (timeouts t) h) outcome.rounds;
      }
    where
      every_slot : (ns : List Notice) → ¬ (ns ≡ []) → slots_after ns ≡ slots_from slots 0
      every_slot [] h = absurd (h refl)
      every_slot (n ∷ ns) h = refl

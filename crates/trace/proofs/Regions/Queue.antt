-- The queue of a pictured state: the record is sound, a region's waiters are its queue by the receipts, a wait can be entered, and the
-- first can be taken out. Assumes nothing.
use Rattle.std.specs.Prelude.{Some}
use mathlib.Core.Path.{◌≡◌, refl, sym, ap, ◌∙◌}
use mathlib.Core.Bool.{Bool, true, false, cond}
use mathlib.Core.List.{List, [], ◌∷◌, ◌++◌}
use Prim.Native.Nat.{ℕ, suc, ◌≤◌, ◌<◌}
use native.Mathlib.Omega.{arith}
use lib.ListN.{length}
use Rattle.manager.specs.Record.{tasks, region_of}
use Rattle.manager.specs.Queue.{enqueue, waiting}
use Rattle.manager.specs.Sound.{sound}
use Rattle.manager.specs.declared.Manager.{Manager}
use Rattle.manager.specs.declared.Region.{Region}
use Rattle.manager.specs.Lists.{In}
use Rattle.trace.specs.Loans.{Loan}
use Rattle.trace.specs.Receipts.{Receipts, RegionEntry, Wait, with_waits}
use Rattle.trace.specs.Queue.{waits_in, queue_of, in_line, order_in, urgent_than}
use Rattle.trace.specs.Replies.{lends_any}
use Rattle.trace.specs.Claims.{waiter_of}
use Rattle.trace.proofs.Invariant.{WaitIs, Waits, Inv}
use Rattle.trace.proofs.Clients.{region_at_lem}
use Rattle.trace.proofs.Frame.{region_unit}
use Rattle.trace.proofs.Map.{shows}
use Rattle.trace.proofs.Servable.{allowed, serves_record}
use Rattle.trace.proofs.Sound.{inv_sound}
use Rattle.trace.proofs.Loans.Tests.{by_eqb}
use Rattle.trace.proofs.Queue.Line.{length_line, true_false}
use Rattle.trace.proofs.Queue.Enter.{waits_entered}
use Rattle.trace.proofs.Queue.Order.{in_waits, queue_of_lem, in_all_waits}
use Rattle.trace.proofs.Queue.Sound.{Waitable, sound_queue_lem}
use Rattle.trace.proofs.Queue.Waiters.{few_waits, task_waits}
use Rattle.trace.proofs.Regions.Live.{not_dead}

-- ---- the queue is sound

-- something is lent, or there is no loan
lends_some : (l : List Loan) → ¬ (l ≡ []) → lends_any l ≡ true
lends_some [] n = absurd (n refl)
lends_some (x ∷ l) n = refl

module _ (m : List ℕ) (d : Manager) (t : Receipts) (v : Inv m d t) where
  waitable : (w : Wait) → In w t.waits → Waitable m d t w
  waitable w i =
      let a = v.waits.each w i in
      let r = region_at_lem m (region_of d w.id) (t.regions w.id) a.entry (v.picture.regions w.id) a.found in
      record {
        alive = rw r.region (not_dead m a.entry r.is);
        order = ap (λ (x : Region). x.order) r.region ∙ ap order_in (sym a.found);
        held = rw r.region ((shows m a.entry r.is).any ∙ lends_some a.entry.loans a.lending);
        knows = rw r.region ((shows m a.entry r.is).knows w.alignment ∙ a.alignment.known);
        allowed = rw r.region (allowed a.entry w.alignment a.alignment);
        fits = rw r.region (serves_record a.entry (region_unit m a.entry r.is) r.is.some_page w.size w.alignment a.size_some a.size_most);
      }

  -- A PICTURED RECORD IS SOUND
  pub sound_inv : sound m d ≡ true
  sound_inv = inv_sound m d t v (sound_queue_lem m d t v.waits waitable)

  -- a wait entered
  pub wait_inv : (w : Wait) → WaitIs t w → waiting d w.task ≡ false → Waits (enqueue d (waiter_of w)) (with_waits (t.waits ++ (w ∷ [])) t)
  wait_inv w a n =
      let r = region_at_lem m (region_of d w.id) (t.regions w.id) a.entry (v.picture.regions w.id) a.found in
      waits_entered d t w v.waits a (ap (λ (x : Region). x.order) r.region)
      (λ h. true_false (waiting d w.task) (task_waits d t v.waits w.task h) n)

-- ---- as many wait as there are tasks, at most

waits_fewer : (id : ℕ) (ws : List Wait) → length (waits_in id ws) ≤ length ws
unfolding waits_in
waits_fewer id [] = omega arith
waits_fewer id (w ∷ ws) =
    by_eqb w.id id (λ (b : Bool). length (cond b (w ∷ waits_in id ws) (waits_in id ws)) ≤ suc (length ws))
    (λ h. omega (arith, waits_fewer id ws)) (λ h. omega (arith, waits_fewer id ws))

pub few_queue : (d : Manager) (t : Receipts) (id : ℕ) (e : RegionEntry) → Waits d t → length (queue_of id e t) ≤ tasks
few_queue d t id e v =
    omega (arith, length_line (urgent_than e.order) [] (waits_in id t.waits), waits_fewer id t.waits, few_waits d t v)

-- each of a region's queue asks for something
pub queue_asks : (d : Manager) (t : Receipts) → Waits d t → (id : ℕ) (e : RegionEntry) → t.regions id ≡ Some e → (w : Wait) → In w (queue_of id e t) → 0 < w.size
queue_asks d t v id e q w h =
    let y : In w t.waits = (in_all_waits t w).0 ((in_waits id w (in_line t)).0 (rw (queue_of_lem id e t q) at h)).0 in
    (v.each w y).size_some

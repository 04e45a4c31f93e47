-- Sound records stay sound: a sound record and memory, reached or not, are the picture of some receipts, and each directive keeps the
-- invariant. And nobody waits for a region with nothing held, so that a delete has no waiter to tell. Assumes nothing.
use mathlib.Core.Path.{◌≡◌, refl, sym, ap, ◌∙◌}
use mathlib.Core.Bool.{true, false, not, ◌&&◌}
use mathlib.Core.List.{List}
use Prim.Native.Nat.{ℕ}
use lib.ListN.{length}
use lib.Dec.{eqb}
use borrow.Author.Tests.{eqb-true, not-true}
use Rattle.manager.specs.Lists.{every, any, pairwise, adjacent}
use Rattle.manager.proofs.Laws.Lists.{and_first, and_second}
use Rattle.manager.specs.Record.{slots, tasks, region_of}
use Rattle.manager.specs.Sound.{sound_place, other_task, in_order, sound_queue, sound}
use Rattle.manager.specs.Region.{any_held}
use Rattle.manager.specs.Queue.{waits_for}
use Rattle.manager.specs.Access.{write_segment}
use Rattle.manager.specs.Perform.{perform}
use Rattle.manager.specs.declared.Manager.{Manager}
use Rattle.manager.specs.declared.Waiter.{Waiter}
use Rattle.manager.specs.declared.Call.{Call}
use Rattle.manager.proofs.Laws.Appended.{by_case}
use Rattle.manager.proofs.Laws.Sound.{sound_queue_lem}
use Rattle.trace.proofs.Access.{write_keeps}
use Rattle.trace.proofs.Queue.Line.{true_false}
use Rattle.trace.proofs.Queue.Places.{in_some, in_every}
use Rattle.trace.proofs.Regions.Queue.{sound_inv}
use Rattle.trace.proofs.Reconstruct as reconstruct
use Rattle.trace.proofs.Reconstruct.Waits.{waiter_parts}
use Rattle.trace.proofs.Directives.{performs}

module _ (m : List ℕ) (d : Manager) (nr : length d.regions ≡ slots) (np : length d.partitions ≡ slots) (nw : length d.waiters ≡ tasks) (ok : sound m d ≡ true) where
  -- every directive
  pub sound_kept : (c : Call) → sound (perform m d c).memory (perform m d c).manager ≡ true
  sound_kept c = sound_inv _ _ _ (performs m d _ (reconstruct.sound_inv m d nr np nw ok) c).kept.inv

  -- a write of a held segment
  pub sound_written : (id a first : ℕ) (words : List ℕ) → sound (write_segment m d id a first words).memory (write_segment m d id a first words).manager ≡ true
  sound_written id a first words = sound_inv _ _ _ (write_keeps m d _ (reconstruct.sound_inv m d nr np nw ok) ok id a first words)

-- "A REGION WITH NOTHING HELD HAS NO WAITER": each used place of a sound queue waits for a region with something held
module _ (m : List ℕ) (d : Manager) where
  held_for : (id : ℕ) (w : Waiter) → sound_place m d w ≡ true → waits_for id w ≡ true → any_held m (region_of d id) ≡ true
  held_for id w e f =
      let used = not-true (eqb w.task 0) (and_first (not (eqb w.task 0)) (eqb w.region id) f) in
      let is : w.region ≡ id = eqb-true w.region id (and_second (not (eqb w.task 0)) (eqb w.region id) f) in
      ap (λ (i : ℕ). any_held m (region_of d i)) (sym is) ∙ (waiter_parts m d w e used).lending

  places_sound : sound m d ≡ true → every (sound_place m d) d.waiters ≡ true
  unfolding sound_queue
  places_sound e = and_first (every (sound_place m d) d.waiters) (pairwise other_task d.waiters && adjacent (in_order d) d.waiters) (sound_queue_lem m d e)

  pub nobody_waits : sound m d ≡ true → (id : ℕ) → any_held m (region_of d id) ≡ false → any (waits_for id) d.waiters ≡ false
  nobody_waits ok id e =
      by_case (any (waits_for id) d.waiters) (λ b. b ≡ false)
      (λ f.
      let r = in_some (waits_for id) d.waiters f in
      let g = in_every (sound_place m d) d.waiters (places_sound ok) r.0 r.1 in
      absurd (true_false (any_held m (region_of d id)) (held_for id r.0 g r.2) e))
      (λ f. refl)

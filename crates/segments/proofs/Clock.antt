-- The record as a tick leaves it: every waiter of it asks for something, and there are places for the notices of all who still wait.
-- Assumes nothing.
use Prim.Native.Nat.{ℕ, suc, ◌+◌, ◌-◌, ◌≤◌}
use mathlib.Core.Path.{◌≡◌, refl, ap, ◌∙◌}
use mathlib.Core.Bool.{Bool, true, cond, not}
use mathlib.Core.List.{List, [], ◌∷◌}
use native.Mathlib.Omega.{arith}
use lib.ListN.{length, replicate}
use lib.Dec.{eqb}
use Rattle.manager.specs.Record.{slots, tasks, no_waiter}
use Rattle.manager.specs.Lists.{every}
use Rattle.manager.specs.Queue.{staying, leaving, aged, expired, after_tick}
use Rattle.manager.specs.Sound.{sound, Sites}
use Rattle.manager.specs.declared.Manager.{Manager}
use Rattle.manager.specs.declared.Waiter.{Waiter}
use Rattle.manager.proofs.Laws.Lists.{and_first, and_second}
use Rattle.manager.proofs.Laws.Appended.{by_case, and_both, every_behind, count_append, count_none, count_most}
use Rattle.manager.proofs.Laws.Sites.{sound_sites, sites_queue}
use Rattle.reply.specs.Notices.{Notices}
use Rattle.reply.specs.declared.Noticed.{Noticed}
use Rattle.manager.proofs.Laws.Queue.{stay_length, length_pad}
use Rattle.segments.specs.Serving.{asks, Asking, used, Ready}
use Rattle.segments.proofs.Serve.{sound_asking, ready_told}

-- ---- the queue after a tick

-- who stays asks for what he asked for
stay_asks : (ws : List Waiter) → every asks ws ≡ true → every asks (staying ws) ≡ true
unfolding every staying
stay_asks [] e = refl
stay_asks (w ∷ ws) e =
    let ih = stay_asks ws (and_second (asks w) (every asks ws) e) in
    by_case (eqb w.ticks 1) (λ b. every asks (cond b (staying ws) (aged w ∷ staying ws)) ≡ true)
    (λ _. ih) (λ _. and_both (asks w) (every asks (staying ws)) (and_first (asks w) (every asks ws) e) ih)

tick_asks : (d : Manager) → Asking d → Asking (after_tick d)
unfolding after_tick
tick_asks d a = every_behind asks no_waiter refl (staying d.waiters) (tasks - length (staying d.waiters)) ∙ stay_asks d.waiters a

-- each who leaves makes a place free
leave_stay : (ws : List Waiter) → length (leaving ws) + length (staying ws) ≡ length ws
unfolding leaving staying
leave_stay [] = refl
leave_stay (w ∷ ws) =
    let ih = leave_stay ws in
    by_case (eqb w.ticks 1) (λ b. length (cond b (expired w ∷ leaving ws) (leaving ws)) + length (cond b (staying ws) (aged w ∷ staying ws)) ≡ suc (length ws))
    (λ _. omega arith) (λ _. omega arith)

tick_fits : (d : Manager) → length d.waiters ≡ tasks → length (leaving d.waiters) + used (after_tick d).waiters ≤ tasks
unfolding after_tick
tick_fits d n =
    let t : Waiter → Bool = λ w. not (eqb w.task 0) in
    let s = staying d.waiters in
    omega (arith, leave_stay d.waiters, count_append t s (replicate (tasks - length s) no_waiter), count_none t no_waiter refl (tasks - length s), count_most t s)

tick_places : (d : Manager) → length d.waiters ≡ tasks → length (after_tick d).waiters ≡ tasks
unfolding after_tick
tick_places d n = length_pad tasks (staying d.waiters) (omega (arith, stay_length d.waiters))

-- ---- what serving needs

module _ (m : List ℕ) (d : Manager) (ok : sound m d ≡ true) (t : Noticed) (x : Notices (after_tick d) (leaving d.waiters) t) where
  pub tick_sites : length d.regions ≡ slots → Sites m t.manager
  unfolding after_tick
  tick_sites n = rw x.manager (sites_queue m d _ (sound_sites m d ok n))

  pub tick_ready : length d.waiters ≡ tasks → Ready t
  tick_ready n =
      ready_told (after_tick d) (leaving d.waiters) t x (rw x.manager (tick_asks d (sound_asking m d ok)))
      (rw x.manager (tick_places d n))
      (omega (arith, x.count, ap (λ (q : Manager). used q.waiters) x.manager, tick_fits d n))

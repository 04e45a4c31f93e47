-- The waits give a sound queue: every place is a wait of a live region that lends something, or unused; each task waits once; the waiters
-- stand region by region, each region's in its order, and unused places behind them. Assumes nothing.
use mathlib.Core.Path.{◌≡◌, refl, sym, ap, ◌∙◌, subst}
use mathlib.Core.Bool.{Bool, true, false, not, ◌||◌}
use mathlib.Core.List.{List, [], ◌∷◌}
use mathlib.Core.Logic.{inl, inr}
use Prim.Native.Nat.{ℕ, ◌-◌, ◌≤◌}
use native.Mathlib.Omega.{arith}
use lib.ListN.{length, replicate}
use lib.Dec.{eqb}
use borrow.Author.Tests.{ne_eqb, le-leb}
use Rattle.manager.specs.Record.{tasks, no_waiter, region_of}
use Rattle.manager.specs.Result.{pad}
use Rattle.manager.specs.Lists.{every, pairwise, adjacent, In, Distinct}
use Rattle.manager.specs.Region.{dead, kind, any_held, is_alignment, need_of, servable}
use Rattle.manager.specs.Sound.{sound_waiter, sound_place, other_task, in_order, sound_queue}
use Rattle.manager.specs.declared.Manager.{Manager}
use Rattle.manager.specs.declared.Waiter.{Waiter}
use Rattle.manager.specs.declared.Order.{Order}
use Rattle.manager.proofs.Laws.Appended.{by_case}
use Rattle.trace.specs.Receipts.{Receipts, Wait}
use Rattle.trace.specs.Queue.{orders, stands_before, in_line}
use Rattle.trace.specs.Claims.{waiter_of, waiters_of}
use Rattle.trace.proofs.Invariant.{WaitIs, Waits, tasks_of}
use Rattle.trace.proofs.Queue.Line.{Behind, Sorted, in_append, sorted_line}
use Rattle.trace.proofs.Queue.Order.{Current, stands_strict, in_all_waits, stands_is}
use Rattle.trace.proofs.Queue.Places.{every_in, in_replicate, adjacent_pad, pairwise_pad}
use Rattle.trace.proofs.Queue.Tasks.{in_tasks, line_once}
use Rattle.trace.proofs.Queue.Waiters.{line_some, in_waiters}

-- EACH TASK ONCE
once_pairwise : (q : List Wait) → Distinct (tasks_of q) → pairwise other_task (waiters_of q) ≡ true
unfolding Distinct tasks_of waiters_of pairwise
once_pairwise [] d = refl
once_pairwise (w ∷ q) d =
    rw (every_in (other_task (waiter_of w)) (waiters_of q) (λ x m.
    let r = in_waiters x q m in
    let n : ¬ (w.task ≡ x.task) = λ e. d.0 (subst (λ (a : ℕ). In a (tasks_of q)) (ap (λ (v : Waiter). v.task) r.2 ∙ sym e) (in_tasks r.0 q r.1)) in
    or_not (eqb w.task 0) (eqb w.task x.task) (ne_eqb w.task x.task n)))
    (once_pairwise q d.1)
  where
    or_not : (a b : Bool) → b ≡ false → (a || not b) ≡ true
    or_not true b e = refl
    or_not false b e = rw e

-- IN ORDER
sorted_adjacent : (d : Manager) (o : ℕ → Order) (deletes : ℕ → ℕ) (q : List Wait) → ((w : Wait) → In w q → Current deletes w × (1 ≤ w.task))
    → ((w : Wait) → In w q → (region_of d w.id).order ≡ o w.id) → Sorted (stands_before o) q → adjacent (in_order d) (waiters_of q) ≡ true
unfolding Sorted Behind In adjacent waiters_of
sorted_adjacent d o deletes [] u r s = refl
sorted_adjacent d o deletes (w ∷ []) u r s = refl
sorted_adjacent d o deletes (w ∷ x ∷ q) u r s =
    let a = u w (inl refl) in
    let b = u x (inr (inl refl)) in
    rw (
      ne_eqb x.task 0 (λ e. omega arith),
      r x (inr (inl refl)),
      stands_is o deletes x w b.0 a.0 a.1,
      s.0.0,
    ) (sorted_adjacent d o deletes (x ∷ q) (λ y m. u y (inr m)) (λ y m. r y (inr m)) s.1)

-- WHAT A WAIT'S REGION IS IN THE RECORD
pub record Waitable (m : List ℕ) (d : Manager) (t : Receipts) (w : Wait) : Type 0 where
  pub alive : dead (region_of d w.id) ≡ false
  pub order : (region_of d w.id).order ≡ orders t w.id
  pub held : any_held m (region_of d w.id) ≡ true
  pub knows : (kind (region_of d w.id)).aligns w.alignment ≡ true
  pub allowed : is_alignment (region_of d w.id).page w.alignment ≡ true
  pub fits : servable (region_of d w.id) (need_of (region_of d w.id) w.size w.alignment) ≡ true

wait_sound : (m : List ℕ) (d : Manager) (t : Receipts) (w : Wait) → WaitIs t w → Waitable m d t w → sound_place m d (waiter_of w) ≡ true
unfolding sound_place sound_waiter
wait_sound m d t w a b =
    rw (
      ne_eqb w.task 0 (λ e. omega (arith, a.task_some)),
      le-leb w.task tasks a.task_most,
      b.alive,
      b.held,
      le-leb 1 w.size a.size_some,
      b.knows,
      b.allowed,
      b.fits,
      le-leb 1 w.priority a.priority_some,
      le-leb w.priority 255 a.priority_most,
    )

none_sound : (m : List ℕ) (d : Manager) → sound_place m d no_waiter ≡ true
unfolding sound_place
none_sound m d = refl

-- A SOUND QUEUE
pub sound_queue_lem : (m : List ℕ) (d : Manager) (t : Receipts) → Waits d t → ((w : Wait) → In w t.waits → Waitable m d t w) → sound_queue m d ≡ true
unfolding sound_queue Sorted
sound_queue_lem m d t v b =
    rw (
      ap (every (sound_place m d)) v.queue ∙ places,
      ap (pairwise other_task) v.queue ∙ pairwise_pad other_task no_waiter (λ x. refl) (waiters_of q) k
          (once_pairwise q (line_once (stands_before (orders t)) t.waits v.once)) used,
      ap (adjacent (in_order d)) v.queue ∙ adjacent_pad (in_order d) no_waiter (λ x. refl) (waiters_of q) k
          (sorted_adjacent d (orders t) t.region_deletes q (line_some d t v) (λ w n. (b w ((in_all_waits t w).0 n)).order)
          (sorted_line (stands_before (orders t)) (stands_strict (orders t)) [] t.waits tt)),
    )
  where
    q : List Wait
    q = in_line t

    k : ℕ
    k = tasks - length (waiters_of (in_line t))

    used_sound : (x : Waiter) → (w : Wait) × In w q × (waiter_of w ≡ x) → sound_place m d x ≡ true
    used_sound x r =
        let j = (in_all_waits t r.0).0 r.1 in
        ap (sound_place m d) (sym r.2) ∙ wait_sound m d t r.0 (v.each r.0 j) (b r.0 j)

    places : every (sound_place m d) (pad tasks no_waiter (waiters_of q)) ≡ true
    places =
        every_in (sound_place m d) (pad tasks no_waiter (waiters_of q)) (λ x n.
        elim ((in_append x (waiters_of q) (replicate k no_waiter)).0 n) [
          | inl h ↦ used_sound x (in_waiters x q h)
          | inr h ↦ ap (sound_place m d) (sym (in_replicate k no_waiter x h)) ∙ none_sound m d
        ])

    used : (x : Waiter) → In x (waiters_of q) → other_task x no_waiter ≡ true
    used x n = by_case (eqb x.task 0) (λ b. (b || not b) ≡ true) (λ e. refl) (λ e. refl)

-- The record's array of waiters is the line of all waits: as many, each for its wait, and of each region its queue. Assumes nothing.
use Rattle.std.specs.Prelude.{Some}
use mathlib.Core.Path.{◌≡◌, refl, sym, ap, ◌∙◌, subst}
use mathlib.Core.Bool.{true, cond}
use mathlib.Core.List.{List, [], ◌∷◌, ◌++◌, append-nil}
use mathlib.Core.Logic.{inl, inr}
use Prim.Native.Nat.{ℕ, suc, ◌-◌, ◌≤◌, ◌<◌}
use native.Mathlib.Omega.{arith}
use lib.ListN.{length, replicate}
use lib.Dec.{eqb}
use borrow.Author.Tests.{eq-eqb, ne_eqb}
use Rattle.manager.specs.Record.{tasks, no_waiter}
use Rattle.manager.specs.Queue.{goes_before, waits_for, waiting}
use Rattle.manager.specs.declared.Manager.{Manager}
use Rattle.manager.specs.declared.Waiter.{Waiter}
use Rattle.manager.specs.declared.Order.{Order}
use Rattle.manager.proofs.Laws.Appended.{by_case}
use Rattle.manager.proofs.Laws.Queue.{length_pad}
use Rattle.manager.specs.Lists.{In}
use Rattle.trace.specs.Receipts.{Receipts, RegionEntry, Wait}
use Rattle.trace.specs.Queue.{insert_by, waits_in, queue_of, orders, stands_before, in_line}
use Rattle.trace.specs.Claims.{waiter_of, waiters_of, waiters_for}
use Rattle.trace.proofs.Invariant.{Waits, tasks_of}
use Rattle.trace.proofs.Queue.Line.{keep, in_append, keep_append, length_line}
use Rattle.trace.proofs.Queue.Order.{Current, stands_is, in_all_waits, queue_of_lem}
use Rattle.trace.proofs.Queue.Places.{keep_replicate, some_in}
use Rattle.trace.proofs.Queue.Tasks.{few, fewer, length_tasks, task_in}

-- WAITS AS WAITERS, one by one
pub waiters_append : (a b : List Wait) → waiters_of (a ++ b) ≡ waiters_of a ++ waiters_of b
unfolding waiters_of
waiters_append [] b = refl
waiters_append (w ∷ a) b = ap (◌∷◌ (waiter_of w)) (waiters_append a b)

pub length_waiters : (q : List Wait) → length (waiters_of q) ≡ length q
unfolding waiters_of
length_waiters [] = refl
length_waiters (w ∷ q) = ap suc (length_waiters q)

pub in_waiters : (x : Waiter) (q : List Wait) → In x (waiters_of q) → (w : Wait) × In w q × (waiter_of w ≡ x)
unfolding In waiters_of
in_waiters x [] h = absurd h
in_waiters x (w ∷ q) (inl e) = (w, inl refl, e)
in_waiters x (w ∷ q) (inr h) = let r = in_waiters x q h in (r.0, inr r.1, r.2)

pub waiter_in : (w : Wait) (q : List Wait) → In w q → In (waiter_of w) (waiters_of q)
unfolding In waiters_of
waiter_in w [] h = h
waiter_in w (x ∷ q) (inl e) = inl (ap (λ (v : Wait). waiter_of v) e)
waiter_in w (x ∷ q) (inr h) = inr (waiter_in w q h)

-- those of a region
pub for_keep : (id : ℕ) (l : List Waiter) → waiters_for id l ≡ keep (waits_for id) l
unfolding waiters_for keep
for_keep id [] = refl
for_keep id (w ∷ l) = rw (for_keep id l)

pub keep_waiters : (id : ℕ) (q : List Wait) → ((w : Wait) → In w q → 1 ≤ w.task) → keep (waits_for id) (waiters_of q) ≡ waiters_of (waits_in id q)
unfolding keep waiters_of waits_in In
keep_waiters id [] h = refl
keep_waiters id (w ∷ q) h =
    let ih = keep_waiters id q (λ x m. h x (inr m)) in
    rw (ne_eqb w.task 0 (λ e. omega (arith, h w (inl refl))))
    (by_case (eqb w.id id)
    (λ t. cond t (waiter_of w ∷ keep (waits_for id) (waiters_of q)) (keep (waits_for id) (waiters_of q)) ≡ waiters_of (cond t (w ∷ waits_in id q) (waits_in id q)))
    (λ t. ap (◌∷◌ (waiter_of w)) ih) (λ f. ih))

-- one more in the line
pub insert_waiters : (o : ℕ → Order) (deletes : ℕ → ℕ) (w : Wait) (q : List Wait) → Current deletes w
    → ((x : Wait) → In x q → Current deletes x × (1 ≤ x.task))
    → insert_by (goes_before (o w.id)) (waiter_of w) (waiters_of q) ≡ waiters_of (insert_by (stands_before o) w q)
unfolding insert_by waiters_of In
insert_waiters o deletes w [] i h = refl
insert_waiters o deletes w (x ∷ q) i h =
    let ih = insert_waiters o deletes w q i (λ y m. h y (inr m)) in
    rw (stands_is o deletes w x i (h x (inl refl)).0 (h x (inl refl)).1)
    (by_case (stands_before o w x)
    (λ t. cond t (waiter_of w ∷ waiter_of x ∷ waiters_of q) (waiter_of x ∷ insert_by (goes_before (o w.id)) (waiter_of w) (waiters_of q))
    ≡ waiters_of (cond t (w ∷ x ∷ q) (x ∷ insert_by (stands_before o) w q)))
    (λ t. refl) (λ f. ap (◌∷◌ (waiter_of x)) ih))

module _ (d : Manager) (t : Receipts) (v : Waits d t) where
  -- no more waits than tasks, and fewer where a task does not wait
  task_bounds : (b : ℕ) → In b (tasks_of t.waits) → (1 ≤ b) × (b ≤ tasks)
  task_bounds b m =
      let r = task_in b t.waits m in
      let w = v.each r.0 r.1 in
      (omega (arith, w.task_some), omega (arith, w.task_most))

  pub few_waits : length t.waits ≤ tasks
  few_waits =
      let h = few tasks (tasks_of t.waits) v.once task_bounds in
      omega (arith, length_tasks t.waits)

  pub fewer_waits : (b : ℕ) → 1 ≤ b → b ≤ tasks → ¬ In b (tasks_of t.waits) → length t.waits < tasks
  fewer_waits b p q g =
      let h = fewer tasks b (tasks_of t.waits) v.once task_bounds p q g in
      omega (arith, length_tasks t.waits)

  -- the line has a waiter for each wait
  pub line_length : length (waiters_of (in_line t)) ≡ length t.waits
  line_length = omega (arith, length_waiters (in_line t), length_line (stands_before (orders t)) [] t.waits)

  pub line_fits : length (waiters_of (in_line t)) ≤ tasks
  line_fits = omega (arith, line_length, few_waits)

  -- the array has all its places
  pub waiter_places : length d.waiters ≡ tasks
  waiter_places = ap length v.queue ∙ length_pad tasks (waiters_of (in_line t)) line_fits

  pub line_some : (w : Wait) → In w (in_line t) → Current t.region_deletes w × (1 ≤ w.task)
  line_some w m = let a = v.each w ((in_all_waits t w).0 m) in (a.id_now_lem, a.task_some)

  -- A REGION'S WAITERS ARE ITS QUEUE
  pub queue_waiters : (id : ℕ) (e : RegionEntry) → t.regions id ≡ Some e → keep (waits_for id) d.waiters ≡ waiters_of (queue_of id e t)
  queue_waiters id e f =
      let ws = waiters_of (in_line t) in
      ap (keep (waits_for id)) v.queue
      ∙ keep_append (waits_for id) ws _
      ∙ ap (λ (r : List Waiter). keep (waits_for id) ws ++ r) (keep_replicate (waits_for id) (tasks - length ws) no_waiter refl)
      ∙ append-nil _
      ∙ keep_waiters id (in_line t) (λ w m. (line_some w m).1)
      ∙ ap waiters_of (sym (queue_of_lem id e t f))

  pub waiters_for_lem : (id : ℕ) (e : RegionEntry) → t.regions id ≡ Some e → waiters_for id d.waiters ≡ waiters_of (queue_of id e t)
  waiters_for_lem id e f = for_keep id d.waiters ∙ queue_waiters id e f

  -- a task that waits by the receipts waits in the record
  pub task_waits : (b : ℕ) → In b (tasks_of t.waits) → waiting d b ≡ true
  task_waits b m =
      let w = task_in b t.waits m in
      let i = (in_append (waiter_of w.0) (waiters_of (in_line t)) (replicate (tasks - length (waiters_of (in_line t))) no_waiter)
      ).1 (inl (waiter_in w.0 (in_line t) ((in_all_waits t w.0).1 w.1))) in
      some_in (λ v. eqb v.task b) d.waiters (waiter_of w.0) (subst (λ (l : List Waiter). In (waiter_of w.0) l) (sym v.queue) i)
      (eq-eqb w.0.task b w.2)

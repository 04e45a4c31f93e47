-- A get that waits: the waiter enters the array where its wait stands in the line of all waits. Assumes nothing.
use mathlib.Core.Path.{◌≡◌, refl, sym, ap, ◌∙◌, subst}
use mathlib.Core.List.{[], ◌∷◌, ◌++◌}
use mathlib.Core.Logic.{◌⊎◌, inl, inr}
use Prim.Native.Nat.{ℕ, zero, suc, ◌-◌, ◌<◌}
use native.Mathlib.Omega.{arith}
use lib.ListN.{length}
use Rattle.manager.specs.Record.{tasks, no_waiter, region_of}
use Rattle.manager.specs.Result.{pad}
use Rattle.manager.specs.Queue.{insert, enqueue}
use Rattle.manager.specs.declared.Manager.{Manager}
use Rattle.manager.specs.declared.Order.{Order}
use Rattle.manager.specs.Lists.{In}
use Rattle.trace.specs.Receipts.{Receipts, Wait, with_waits}
use Rattle.trace.specs.Queue.{insert_all, order_in, orders, stands_before, in_line}
use Rattle.trace.specs.Claims.{waiter_of, waiters_of}
use Rattle.trace.proofs.Invariant.{WaitIs, Waits, tasks_of}
use Rattle.trace.proofs.Queue.Line.{in_append, line_append}
use Rattle.trace.proofs.Queue.Places.{insert_pad}
use Rattle.trace.proofs.Queue.Tasks.{append_once, wait_same}
use Rattle.trace.proofs.Queue.Waiters.{fewer_waits, line_length, line_some, insert_waiters}

-- A WAIT ENTERED: the waits and their picture
module _ (d : Manager) (t : Receipts) (w : Wait) (v : Waits d t) (a : WaitIs t w) (order : (region_of d w.id).order ≡ a.entry.order)
    (new : ¬ In w.task (tasks_of t.waits)) where
  abbrev entered : Receipts
  entered = with_waits (t.waits ++ (w ∷ [])) t

  each_entered : (x : Wait) → In x (t.waits ++ (w ∷ [])) → WaitIs entered x
  unfolding In
  each_entered x m =
      elim ((in_append x t.waits (w ∷ [])).0 m) [
        | inl h ↦ wait_same t entered x (v.each x h) refl refl
        | inr h ↦ elim h [ inl e ↦ subst (λ (y : Wait). WaitIs entered y) e (wait_same t entered w a refl refl) | inr z ↦ absurd z ]
      ]

  -- the waiter enters where the wait stands
  queue_entered : insert (region_of d w.id).order (waiter_of w) d.waiters ≡ pad tasks no_waiter (waiters_of (in_line entered))
  unfolding insert_all
  queue_entered =
      let o = orders t in
      let h : length (waiters_of (in_line t)) < tasks = omega (arith, line_length d t v, fewer_waits d t v w.task a.task_some a.task_most new) in
      ap (insert (region_of d w.id).order (waiter_of w)) v.queue
      ∙ ap (λ (r : Order). insert r (waiter_of w) (pad tasks no_waiter (waiters_of (in_line t)))) (order ∙ ap order_in (sym a.found))
      ∙ insert_pad (o w.id) tasks (waiter_of w) (waiters_of (in_line t)) h
      ∙ ap (pad tasks no_waiter) (insert_waiters o t.region_deletes w (in_line t) a.id_now_lem (line_some d t v)
      ∙ ap waiters_of (sym (line_append (stands_before o) [] t.waits (w ∷ []))))

  pub waits_entered : Waits (enqueue d (waiter_of w)) entered
  unfolding enqueue
  waits_entered = record { each = each_entered; once = append_once t.waits w v.once new; queue = queue_entered }

-- a wait that begins now has all its ticks left
pub new_waiter : (task id size alignment priority ticks : ℕ)
    → waiter_of (record { task = task; id = id; size = size; alignment = alignment; priority = priority; ticks = ticks; since = 0 })
    ≡ record { task = task; region = id; size = size; alignment = alignment; priority = priority; ticks = ticks }
new_waiter task id size alignment priority ticks =
    let e : ticks - 0 ≡ ticks = omega arith in
    ap (λ (n : ℕ). record { task = task; region = id; size = size; alignment = alignment; priority = priority; ticks = n }) e

pub new_time : (ticks : ℕ) → (ticks ≡ 0) ⊎ (0 < ticks)
new_time zero = inl refl
new_time (suc n) = inr (omega arith)

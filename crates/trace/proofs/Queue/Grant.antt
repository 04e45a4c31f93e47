-- The first waiter of a region: where he stands in the array, and what is left when he is taken out. Assumes nothing.
use Rattle.std.specs.Prelude.{Some}
use mathlib.Core.Path.{◌≡◌, refl, sym, ap, ◌∙◌, subst}
use mathlib.Core.Bool.{Bool}
use mathlib.Core.List.{List, [], ◌∷◌, ◌++◌, append_assoc}
use mathlib.Core.Logic.{inl, inr}
use Prim.Native.Nat.{ℕ, ◌-◌, ◌≤◌, ◌<◌}
use native.Mathlib.Omega.{arith}
use lib.ListN.{length, get_or, replicate, length-append}
use lib.Seq.{get_or-append_seam}
use lib.Dec.{eqb}
use borrow.Author.Tests.{eqb-true, eq-eqb, ne_eqb}
use Rattle.manager.specs.Record.{tasks, no_waiter}
use Rattle.manager.specs.Result.{pad}
use Rattle.manager.specs.Lists.{index_of, In, Distinct}
use Rattle.manager.specs.Queue.{waits_for, first_of, remove_at, dequeue}
use Rattle.manager.specs.declared.Manager.{Manager}
use Rattle.manager.specs.declared.Waiter.{Waiter}
use Rattle.trace.specs.Receipts.{Receipts, RegionEntry, Wait, with_waits, without, wait_of}
use Rattle.trace.specs.Queue.{insert_all, waits_in, queue_of, orders, stands_before, in_line}
use Rattle.trace.specs.Claims.{waiter_of, waiters_of}
use Rattle.trace.proofs.Invariant.{Waits, tasks_of, WaitIs}
use Rattle.trace.proofs.Queue.Line.{keep, Sorted, in_append, in_keep, keep_append, keep_line}
use Rattle.trace.proofs.Queue.Order.{queue_of_lem, waits_keep, stands_strict, in_all_waits}
use Rattle.trace.proofs.Queue.Places.{first_is, first_at, first_none, remove_pad}
use Rattle.trace.proofs.Queue.Tasks.{not_of, without_keep, keep_others, keep_once, line_once, wait_of_lem, wait_same}
use Rattle.trace.proofs.Queue.Waiters.{line_fits, waiter_places, line_some, queue_waiters, waiters_append, keep_waiters}

-- the receipts without a task's wait
abbrev pub struck : ℕ → Receipts → Receipts
struck task t = with_waits (without task t.waits) t

-- THE FIRST OF A REGION, and what is left without him
pub record Granted (d : Manager) (t : Receipts) (id : ℕ) (e : RegionEntry) (w : Wait) (ws : List Wait) : Type 0 where
  pub place : first_of id d.waiters < tasks
  pub waiter : get_or d.waiters (first_of id d.waiters) no_waiter ≡ waiter_of w
  pub waits : In w t.waits
  pub wait : wait_of w.task t.waits ≡ w
  pub region : w.id ≡ id
  pub after : Waits (dequeue d (first_of id d.waiters)) (struck w.task t)
  pub rest : queue_of id e (struck w.task t) ≡ ws

waits_append : (id : ℕ) (a b : List Wait) → waits_in id (a ++ b) ≡ waits_in id a ++ waits_in id b
waits_append id a b = simp (waits_keep, keep_append)

module _ (d : Manager) (t : Receipts) (v : Waits d t) where
  -- THE LINE WITHOUT A WAIT: the others, in their order
  line_struck : (task : ℕ) → in_line (struck task t) ≡ keep (not_of task) (in_line t)
  unfolding keep Sorted
  line_struck task =
      ap (insert_all (stands_before (orders t)) []) (without_keep task t.waits v.once)
      ∙ sym (keep_line (stands_before (orders t)) (stands_strict (orders t)) (not_of task) [] t.waits tt)

  each_struck : (task : ℕ) (w : Wait) → In w (without task t.waits) → WaitIs (struck task t) w
  each_struck task w m =
      wait_same t (struck task t) w (v.each w ((in_keep (not_of task) w t.waits).0 (rw (without_keep task t.waits v.once) at m)).0) refl refl

  module _ (id : ℕ) (e : RegionEntry) (f : t.regions id ≡ Some e) where
    -- NOBODY WAITS: no place is a waiter's of the region
    pub none_first : queue_of id e t ≡ [] → tasks ≤ first_of id d.waiters
    unfolding waiters_of
    none_first z =
        omega (
          arith,
          first_none (waits_for id) d.waiters (queue_waiters d t v id e f ∙ ap waiters_of z),
          waiter_places d t v,
        )

    -- by where he stands in the line
    module _ (w : Wait) (ws front back : List Wait) (split : in_line t ≡ front ++ (w ∷ back)) (region : w.id ≡ id)
        (before : waits_in id front ≡ []) (after : waits_in id back ≡ ws) where
      in_front : (x : Wait) → In x front → In x (in_line t)
      in_front x m = rw split ((in_append x front (w ∷ back)).1 (inl m))

      in_row : In w t.waits
      unfolding In
      in_row = (in_all_waits t w).0 (rw split ((in_append w front (w ∷ back)).1 (inr (inl refl))))

      row_split : waiters_of (in_line t) ≡ waiters_of front ++ (waiter_of w ∷ waiters_of back)
      unfolding waiters_of
      row_split = ap waiters_of split ∙ waiters_append front (w ∷ back)

      row : d.waiters ≡ pad tasks no_waiter (waiters_of front ++ (waiter_of w ∷ waiters_of back))
      row = v.queue ∙ ap (pad tasks no_waiter) row_split

      row_size : length (waiters_of front ++ (waiter_of w ∷ waiters_of back)) ≤ tasks
      row_size = subst (λ (l : List Waiter). length l ≤ tasks) row_split (line_fits d t v)

      apart : d.waiters ≡ waiters_of front ++ (waiter_of w ∷ (waiters_of back ++ replicate (tasks - length (waiters_of front ++ (waiter_of w ∷ waiters_of back))) no_waiter))
      apart = row ∙ append_assoc (waiters_of front) (waiter_of w ∷ waiters_of back) _

      first : first_of id d.waiters ≡ length (waiters_of front)
      unfolding waiters_of
      first =
          ap (index_of (waits_for id)) apart
          ∙ first_at (waits_for id) (waiters_of front) (waiter_of w) _
          (keep_waiters id front (λ x m. (line_some d t v x (in_front x m)).1) ∙ ap waiters_of before)
          (rw (ne_eqb w.task 0 (λ e. omega (arith, (v.each w in_row).task_some)), eq-eqb w.id id region))

      left : in_line (struck w.task t) ≡ front ++ back
      left =
          line_struck w.task ∙ ap (keep (not_of w.task)) split
          ∙ keep_others front w back
          (subst (λ (l : List Wait). Distinct (tasks_of l)) split (line_once (stands_before (orders t)) t.waits v.once))

      waits_left : Waits (dequeue d (first_of id d.waiters)) (struck w.task t)
      unfolding dequeue
      waits_left =
          record {
            each = each_struck w.task;
            once = rw (without_keep w.task t.waits v.once) (keep_once (not_of w.task) t.waits v.once);
            queue = ap (λ (i : ℕ). remove_at i d.waiters) first
                ∙ ap (remove_at (length (waiters_of front))) row
                ∙ remove_pad tasks (waiters_of front) (waiter_of w) (waiters_of back) row_size
                ∙ ap (pad tasks no_waiter) (sym (waiters_append front back) ∙ ap waiters_of (sym left));
          }

      granted_at : Granted d t id e w ws
      granted_at =
          record {
            place = omega (arith, first, row_size, length-append (waiters_of front) (waiter_of w ∷ waiters_of back));
            waiter = ap (λ (i : ℕ). get_or d.waiters i no_waiter) first
                ∙ ap (λ (l : List Waiter). get_or l (length (waiters_of front)) no_waiter) apart
                ∙ get_or-append_seam (waiters_of front) (waiter_of w) _ no_waiter;
            waits = in_row;
            wait = wait_of_lem w t.waits v.once in_row;
            region = region;
            after = waits_left;
            rest = queue_of_lem id e (struck w.task t) f ∙ ap (waits_in id) left ∙ waits_append id front back ∙ rw (before, after);
          }

    pub granted : (w : Wait) (ws : List Wait) → queue_of id e t ≡ w ∷ ws → Granted d t id e w ws
    granted w ws z =
        let p : Wait → Bool = λ x. eqb x.id id in
        let i = first_is p (in_line t) w ws (sym (waits_keep id (in_line t)) ∙ sym (queue_of_lem id e t f) ∙ z) in
        granted_at w ws i.front i.rest i.split (eqb-true w.id id i.passes) (waits_keep id i.front ∙ i.before)
        (waits_keep id i.rest ∙ i.after)

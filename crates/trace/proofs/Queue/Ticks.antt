-- The clock tick: the waits whose time runs out leave, in the order of the queues, and each of the others has a tick less left.
-- Assumes nothing.
use mathlib.Core.Path.{◌≡◌, refl, sym, ap, ◌∙◌, subst}
use mathlib.Core.Bool.{Bool, true, false, cond, not, ◌&&◌, ◌||◌}
use mathlib.Core.List.{List, [], ◌∷◌}
use mathlib.Core.Logic.{◌⊎◌, inl, inr}
use Prim.Native.Nat.{ℕ, ◌+◌, ◌-◌, ◌<◌}
use native.Mathlib.Omega.{arith}
use lib.Dec.{eqb}
use borrow.Author.Tests.{eqb-true, eqb-false, eq-eqb, ne_eqb, not-true}
use Rattle.manager.specs.Record.{tasks, no_waiter}
use Rattle.manager.specs.Result.{pad}
use Rattle.manager.specs.Lists as Lists
use Rattle.manager.proofs.Laws.Lists.{and_first, and_second}
use Rattle.manager.specs.Queue.{leaving, staying, aged, after_tick}
use Rattle.manager.proofs.Laws.Queue.{told_pad, tick_pad}
use Rattle.manager.specs.declared.Manager.{Manager}
use Rattle.manager.specs.declared.Waiter.{Waiter}
use Rattle.manager.specs.declared.Order.{Order}
use Rattle.manager.specs.declared.Status.TheVariants.{Timeout}
use Rattle.manager.proofs.Laws.Appended.{by_case}
use Rattle.manager.specs.Lists.{In, Distinct}
use Rattle.trace.specs.Receipts.{Receipts, Wait, with_waits, without, later, all_later, all_noticed}
use Rattle.trace.specs.Queue.{insert_by, insert_all, orders, stands_before, due_in, in_line, rank}
use Rattle.trace.specs.Claims.{waiter_of, waiters_of}
use Rattle.trace.proofs.Invariant.{WaitIs, Waits, tasks_of}
use Rattle.trace.proofs.Loans.Tests.{by_eqb}
use Rattle.trace.proofs.Queue.Line.{true_false, keep, Sorted, in_keep, keep_line, keep_same, keep_all, keep_keep}
use Rattle.trace.proofs.Queue.Order.{stands_strict, in_all_waits}
use Rattle.trace.proofs.Queue.Places.{some_in, in_some}
use Rattle.trace.proofs.Queue.Tasks.{not_of, without_keep, keep_once, one_wait, wait_moved}
use Rattle.trace.proofs.Queue.Waiters.{line_fits}

-- a wait whose time runs out at this tick
abbrev pub due : Wait → Bool
due w = eqb w.ticks (w.since + 1)

abbrev pub not_due : Wait → Bool
not_due w = not (due w)

-- it has one tick left
left_one : (w : Wait) → eqb (w.ticks - w.since) 1 ≡ due w
left_one w =
    by_eqb w.ticks (w.since + 1) (λ t. eqb (w.ticks - w.since) 1 ≡ t)
    (λ e. eq-eqb (w.ticks - w.since) 1 (omega arith))
    (λ f. ne_eqb (w.ticks - w.since) 1 (λ e. f (omega arith)))

-- THE NOTICES ARE THOSE OF THE WAITS THAT ARE DUE
due_leaving : (q : List Wait) → leaving (waiters_of q) ≡ due_in q
unfolding leaving waiters_of due_in
due_leaving [] = refl
due_leaving (w ∷ q) = rw (left_one w, due_leaving q)

pub tick_notices : (d : Manager) (t : Receipts) → Waits d t → leaving d.waiters ≡ due_in (in_line t)
tick_notices d t v = ap leaving v.queue ∙ told_pad tasks (waiters_of (in_line t)) ∙ due_leaving (in_line t)

-- THOSE THAT STAY have a tick less left
age_one : (w : Wait) → aged (waiter_of w) ≡ waiter_of (later w)
age_one w =
    let e : w.ticks - w.since - 1 ≡ w.ticks - (w.since + 1) = omega arith in
    ap (λ (n : ℕ). record { task = w.task; region = w.id; size = w.size; alignment = w.alignment; priority = w.priority; ticks = n }) e

due_staying : (q : List Wait) → staying (waiters_of q) ≡ waiters_of (all_later (keep not_due q))
unfolding staying waiters_of keep all_later
due_staying [] = refl
due_staying (w ∷ q) =
    let ih = due_staying q in
    rw (left_one w)
    (by_case (due w)
    (λ t. cond t (staying (waiters_of q)) (aged (waiter_of w) ∷ staying (waiters_of q))
    ≡ waiters_of (all_later (cond (not t) (w ∷ keep not_due q) (keep not_due q))))
    (λ t. ih) (λ f. rw (age_one w, ih)))

-- LATER: a wait keeps its place in the line
insert_later : (lt : Wait → Wait → Bool) → ((x y : Wait) → lt (later x) (later y) ≡ lt x y) → (w : Wait) (q : List Wait)
    → insert_by lt (later w) (all_later q) ≡ all_later (insert_by lt w q)
unfolding insert_by all_later
insert_later lt h w [] = refl
insert_later lt h w (x ∷ q) =
    let ih = insert_later lt h w q in
    rw (h w x)
    (by_case (lt w x) (λ t. cond t (later w ∷ later x ∷ all_later q) (later x ∷ insert_by lt (later w) (all_later q)) ≡ all_later (cond t (w ∷ x ∷ q) (x ∷ insert_by lt w q)))
    (λ t. refl) (λ f. ap (◌∷◌ (later x)) ih))

line_later : (lt : Wait → Wait → Bool) → ((x y : Wait) → lt (later x) (later y) ≡ lt x y) → (q ws : List Wait)
    → insert_all lt (all_later q) (all_later ws) ≡ all_later (insert_all lt q ws)
unfolding insert_all all_later
line_later lt h q [] = refl
line_later lt h q (w ∷ ws) = ap (λ (l : List Wait). insert_all lt l (all_later ws)) (insert_later lt h w q) ∙ line_later lt h (insert_by lt w q) ws

rank_later : (r : Order) (w : Wait) → rank r (later w) ≡ rank r w
rank_later r w = refl

stands_later : (o : ℕ → Order) (x y : Wait) → stands_before o (later x) (later y) ≡ stands_before o x y
unfolding stands_before
stands_later o x y = rw (rank_later (o x.id) x, rank_later (o y.id) y)

in_later : (x : Wait) (ws : List Wait) → In x (all_later ws) → (w : Wait) × In w ws × (later w ≡ x)
unfolding In all_later
in_later x [] h = absurd h
in_later x (w ∷ ws) (inl e) = (w, inl refl, e)
in_later x (w ∷ ws) (inr h) = let r = in_later x ws h in (r.0, inr r.1, r.2)

tasks_later : (ws : List Wait) → tasks_of (all_later ws) ≡ tasks_of ws
unfolding tasks_of all_later
tasks_later [] = refl
tasks_later (w ∷ ws) = ap (◌∷◌ w.task) (tasks_later ws)

keep_later : (p : Wait → Bool) (ws : List Wait) → keep p (all_later ws) ≡ all_later (keep (λ w. p (later w)) ws)
unfolding keep all_later
keep_later p [] = refl
keep_later p (w ∷ ws) =
    let ih = keep_later p ws in
    by_case (p (later w))
    (λ t. cond t (later w ∷ keep p (all_later ws)) (keep p (all_later ws)) ≡ all_later (cond t (w ∷ keep (λ v. p (later v)) ws) (keep (λ v. p (later v)) ws)))
    (λ t. ap (◌∷◌ (later w)) ih) (λ f. ih)

-- THE NOTICES STRIKE THE WAITS OF THEIR TASKS
-- one of q that is due has the task of x
abbrev late_in : List Wait → Wait → Bool
late_in q x = Lists.any (λ w. due w && eqb x.task w.task) q

notices_strike : (q l : List Wait) (t : Receipts) → Distinct (tasks_of l)
    → all_noticed (due_in q) (with_waits l t) ≡ with_waits (keep (λ x. not (late_in q x)) l) t
unfolding all_noticed due_in Lists.any
notices_strike [] l t d = ap (λ (ws : List Wait). with_waits ws t) (sym (keep_all (λ x. true) l (λ x m. refl)))
notices_strike (w ∷ q) l t d =
    by_case (due w)
    (λ b. all_noticed (cond b (record { task = w.task; status = Timeout; address = 0 } ∷ due_in q) (due_in q)) (with_waits l t)
    ≡ with_waits (keep (λ x. not ((b && eqb x.task w.task) || late_in q x)) l) t)
    (λ b. notices_strike q (without w.task l) t (subst (λ (ws : List Wait). Distinct (tasks_of ws)) (sym (without_keep w.task l d)) (keep_once (not_of w.task) l d))
    ∙ ap (λ (ws : List Wait). with_waits ws t) (ap (keep (λ x. not (late_in q x))) (without_keep w.task l d)
    ∙ keep_keep (λ x. not (late_in q x)) (not_of w.task) l
    ∙ keep_same (λ x. not_of w.task x && not (late_in q x)) (λ x. not (eqb x.task w.task || late_in q x)) l
    (λ x m. by_case (eqb x.task w.task) (λ c. (not c && not (late_in q x)) ≡ not (c || late_in q x)) (λ c. refl) (λ c. refl))))
    (λ f. notices_strike q l t d)

-- time is left to those that were not due
later_time : (w : Wait) → (w.ticks ≡ 0) ⊎ (w.since < w.ticks) → due w ≡ false → (w.ticks ≡ 0) ⊎ (w.since + 1 < w.ticks)
later_time w (inl e) f = inl e
later_time w (inr h) f = let g : ¬ (w.ticks ≡ w.since + 1) = eqb-false w.ticks (w.since + 1) f in inr (omega arith)

later_is : (t : Receipts) (ws : List Wait) (w : Wait) → WaitIs t w → due w ≡ false → WaitIs (with_waits ws t) (later w)
later_is t ws w a f = wait_moved t (with_waits ws t) w (w.since + 1) a.entry.loans a a.found refl a.lending (later_time w a.time f)

module _ (d : Manager) (t : Receipts) (v : Waits d t) where
  -- among the waits in line that are due is one of a wait's task exactly where it is due itself
  late_due : (w : Wait) → In w t.waits → late_in (in_line t) (later w) ≡ due w
  late_due w m =
      by_case (due w) (λ b. late_in (in_line t) (later w) ≡ b)
      (λ b. some_in (λ v. due v && eqb w.task v.task) (in_line t) w ((in_all_waits t w).1 m) (rw (b, eq-eqb w.task w.task refl)))
      (λ b. go (late_in (in_line t) (later w)) refl b)
    where
      go : (l : Bool) → late_in (in_line t) (later w) ≡ l → due w ≡ false → l ≡ false
      go false e b = refl
      go true e b =
          let r = in_some (λ v. due v && eqb w.task v.task) (in_line t) e in
          let x = r.0 in
          let f = eqb-true w.task x.task (and_second (due x) (eqb w.task x.task) r.2) in
          let g : w ≡ x = one_wait w x t.waits v.once m ((in_all_waits t x).0 r.1) f in
          absurd (true_false (due x) (and_first (due x) (eqb w.task x.task) r.2) (ap (λ (y : Wait). due y) (sym g) ∙ b))

  abbrev stay : List Wait
  stay = all_later (keep not_due t.waits)

  -- THE RECEIPTS AFTER A TICK: the waits that were not due, each a tick later
  pub tick_receipts : all_noticed (due_in (in_line t)) (with_waits (all_later t.waits) t) ≡ with_waits stay t
  tick_receipts =
      notices_strike (in_line t) (all_later t.waits) t (rw (tasks_later t.waits) v.once)
      ∙ ap (λ (ws : List Wait). with_waits ws t) (keep_later (λ x. not (late_in (in_line t) x)) t.waits
      ∙ ap all_later (keep_same (λ w. not (late_in (in_line t) (later w))) not_due t.waits (λ w m. ap not (late_due w m))))

  each_later : (x : Wait) → In x stay → WaitIs (with_waits stay t) x
  each_later x m =
      let r = in_later x (keep not_due t.waits) m in
      let c = (in_keep not_due r.0 t.waits).0 r.1 in
      subst (λ (y : Wait). WaitIs (with_waits stay t) y) r.2 (later_is t stay r.0 (v.each r.0 c.0) (not-true (due r.0) c.1))

  -- the line is that of those that stay
  line_tick : in_line (with_waits stay t) ≡ all_later (keep not_due (in_line t))
  unfolding keep Sorted all_later
  line_tick =
      let o = orders t in
      line_later (stands_before o) (stands_later o) [] (keep not_due t.waits)
      ∙ ap all_later (sym (keep_line (stands_before o) (stands_strict o) not_due [] t.waits tt))

  -- THE WAITS AFTER A TICK
  pub waits_tick : Waits (after_tick d) (with_waits stay t)
  unfolding after_tick
  waits_tick =
      record {
        each = each_later;
        once = rw (tasks_later (keep not_due t.waits)) (keep_once not_due t.waits v.once);
        queue = ap (λ (l : List Waiter). pad tasks no_waiter (staying l)) v.queue
            ∙ tick_pad tasks (waiters_of (in_line t)) (line_fits d t v)
            ∙ ap (pad tasks no_waiter) (due_staying (in_line t) ∙ ap waiters_of (sym line_tick));
      }

-- A get: at the place that it takes, which is then lent; where there is none, 13, or the task waits. Assumes nothing.
use Rattle.std.specs.Prelude.{Option, None, Some}
use mathlib.Core.Path.{◌≡◌, refl, sym, subst, ap, ◌∙◌}
use mathlib.Core.Bool.{true, false, not}
use mathlib.Core.List.{List, [], ◌∷◌, ◌++◌}
use mathlib.Core.Logic.{inl, inr}
use Prim.Native.Nat.{ℕ, ◌<◌, ◌-◌}
use native.Mathlib.Omega.{arith}
use lib.ListN.{length, replicate}
use lib.Dec.{eqb}
use borrow.Author.Tests.{eqb-false, ltb-false, not-false, eqb-true, eq-eqb}
use Rattle.manager.specs.Record.{tasks, region_of, no_waiter}
use Rattle.manager.specs.Result.{Result, done, replied, check}
use Rattle.manager.specs.Lists.{every, In}
use Rattle.manager.specs.Region.{kind, address_of, is_alignment, need_of, placed, taken, servable}
use Rattle.manager.specs.Queue.{enqueue, waiting}
use Rattle.manager.specs.Kind.{on_place}
use Rattle.manager.specs.Regions.{wait_checks, unplaced, get_segment}
use Rattle.manager.specs.declared.Manager.{Manager}
use Rattle.manager.specs.declared.Region.{Region}
use Rattle.manager.specs.declared.Waiter.{Waiter}
use Rattle.manager.specs.declared.Need.{Need}
use Rattle.manager.specs.declared.Wait as asking
use Rattle.manager.specs.declared.Wait.TheVariants.{No, Yes}
use Rattle.manager.specs.declared.Call.{Call}
use Rattle.manager.specs.declared.Call.TheVariants.{GetSegment}
use Rattle.manager.specs.declared.Status.TheVariants.{Successful, NotDefined, Unsatisfied, Waiting, InvalidSize}
use Rattle.manager.proofs.Laws.Result.{Passed}
use Rattle.manager.proofs.Laws.Appended.{by_case}
use Rattle.trace.specs.Loans.{Loan, enter}
use Rattle.trace.specs.Receipts.{Receipts, RegionEntry, Wait, address_in, lend, pages_over, need_in, Alignment, Servable, Reply, reply_of}
use Rattle.trace.specs.Claims.{Full, waiters_of}
use Rattle.trace.specs.Queue.{in_line}
use Rattle.trace.specs.Replies.{yes, no_place, waits_already, waiting_checks, by_receipts}
use Rattle.trace.proofs.Invariant.{region_for, RegionIs, WaitIs, Inv, with_waits_lem, tasks_of}
use Rattle.trace.proofs.Frame.{region_unit}
use Rattle.trace.proofs.Segments.{full_lends}
use Rattle.trace.proofs.Servable.{allows, record_serves}
use Rattle.trace.proofs.Clients.{RegionAt}
use Rattle.trace.proofs.Map.{Steps, Gives, gave, none, shows}
use Rattle.trace.proofs.Queue.Enter.{new_waiter, new_time}
use Rattle.trace.proofs.Regions.Checks.{refuses, note_done, note_waiting, Kept, kept_map, kept_words, kept_refused, kept_checked, Right}
use Rattle.trace.proofs.Regions.Live.{slot_entry_lem}
use Rattle.trace.proofs.Regions.Picture.{on_region_lem, any_queue, stepped}
use Rattle.trace.proofs.Regions.Lending.{waits_lent, enter_some}
use Rattle.trace.proofs.Regions.Queue.{sound_inv, wait_inv}
use Rattle.trace.proofs.Slots.{region_now_lem}
use Rattle.trace.proofs.Queue.Line.{true_false, in_append}
use Rattle.trace.proofs.Queue.Places.{in_some, in_replicate, some_in}
use Rattle.trace.proofs.Queue.Tasks.{in_tasks, task_in}
use Rattle.trace.proofs.Queue.Order.{in_all_waits}
use Rattle.trace.proofs.Queue.Waiters.{task_waits, in_waiters}
use Rattle.trace.proofs.Replies.Checks.{Agree, rest, same, test, acted, agree, answers, at_region}

-- what a get does in a region, once its checks pass
abbrev getting : List ℕ → Manager → asking.Wait → Waiter → Region → Need → Result
getting m d wait w r n = on_place (placed m r n) (λ p. done (taken m r n) d (address_of r p)) (unplaced m d wait w)

wait_refuses : (d : Manager) (wait : asking.Wait) (task priority : ℕ) → every refuses (wait_checks d wait task priority) ≡ true
unfolding every
wait_refuses d No task priority = refl
wait_refuses d Yes task priority = refl

module _ (m : List ℕ) (d : Manager) (t : Receipts) (v : Inv m d t) (id size alignment : ℕ) (wait : asking.Wait) (task priority ticks : ℕ) where
  abbrev asks : Call
  asks = GetSegment id size alignment wait task priority ticks

  abbrev waiter : Waiter
  waiter = record { task = task; region = id; size = size; alignment = alignment; priority = priority; ticks = ticks }

  module _ (e : RegionEntry) (q : t.regions id ≡ Some e) (is : RegionIs m e) (z : 0 < size) (a : Alignment e alignment) (h : Servable e size alignment) where
    -- the wait that is entered
    abbrev entry : Wait
    entry = record { task = task; id = id; size = size; alignment = alignment; priority = priority; ticks = ticks; since = 0 }

    module _ (full : Full e e.loans size alignment) where
      entry_is : Passed (wait_checks d Yes task priority) → WaitIs t entry
      unfolding Passed
      entry_is c =
          record {
            entry = e;
            found = q;
            id_now_lem = (region_now_lem m d t v.picture id e q).is;
            lending = full_lends e size alignment h full;
            task_some = let y = eqb-false task 0 c.0 in omega arith;
            task_most = ltb-false tasks task c.1.0;
            size_some = z;
            alignment = a;
            size_most = h;
            priority_some = let y = eqb-false priority 0 c.1.1.0 in omega arith;
            priority_most = ltb-false 255 priority c.1.1.1.0;
            time = new_time ticks;
          }

      -- the task waits
      waits_kept : Passed (wait_checks d Yes task priority) → Kept asks m t (replied m (enqueue d waiter) Waiting 0)
      unfolding Passed enqueue
      waits_kept c =
          kept_words asks m t (replied m (enqueue d waiter) Waiting 0) refl refl
          (rw (note_waiting asks m (enqueue d waiter) t 0 Waiting refl refl)
          (with_waits_lem (any_queue m d t (enqueue d waiter).waiters (t.waits ++ (entry ∷ [])) v.picture)
          (rw (new_waiter task id size alignment priority ticks) at (wait_inv m d t v entry (entry_is c) c.1.1.1.1.0))))

      unplaced_kept : (w : asking.Wait) → Passed (wait_checks d w task priority) → Kept asks m t (unplaced m d w waiter)
      unplaced_kept No c = kept_refused asks m d t v Unsatisfied 0 refl
      unplaced_kept Yes c = waits_kept c

    -- a place: its pages are lent
    abbrev lent : ℕ → List Loan
    lent p = enter (address_in e p) (pages_over e size) e.loans

    placed_kept : (p : ℕ) (m' : List ℕ) → Steps m e m' (lent p) → Kept asks m t (done m' d (address_in e p))
    placed_kept p m' s =
        kept_map asks m d t v id e q (done m' d (address_in e p)) s.only refl
        (rw (note_done asks m' d t (address_in e p) Successful refl, on_region_lem id e t (lend (address_in e p) size) q)
        (with_waits_lem (stepped m d t v.picture id e q m' (lent p) s)
        (waits_lent t id e q (lent p) d v.waits (λ x i r. enter_some (address_in e p) (pages_over e size) e.loans))))

    act_kept : Passed (wait_checks d wait task priority) → Kept asks m t (getting m d wait waiter (region_for e) (need_in e size alignment))
    act_kept c = go ((shows m e is).got size alignment z)
      where
        go : {g : Option ℕ} {m' : List ℕ} → Gives m e size alignment g m'
            → Kept asks m t (on_place g (λ p. done m' d (address_of (region_for e) p)) (unplaced m d wait waiter))
        go (gave {m'} p low s) = placed_kept p m' s
        go (none f) = unplaced_kept f wait c

  -- its own checks let pass what the region allows, and what it could serve with nothing lent
  module _ (r : Region) (e : RegionEntry) (at : RegionAt m r e) where
    allows_get : not ((kind r).aligns alignment) ≡ false → not (is_alignment r.page alignment) ≡ false → Alignment e alignment
    allows_get k h =
        allows e alignment (sym ((shows m e at.is).knows alignment) ∙ rw at.region at (not-false ((kind r).aligns alignment) k))
        (rw at.region at (not-false (is_alignment r.page alignment) h))

    serves_get : 0 < size → not (servable r (need_of r size alignment)) ≡ false → Servable e size alignment
    serves_get z h =
        record_serves e (region_unit m e at.is) at.is.some_page size alignment z
        (subst (λ (x : Region). servable x (need_of x size alignment) ≡ true) at.region (not-false (servable r (need_of r size alignment)) h))

  -- A GET KEEPS THE PICTURE
  keeps_get : Kept asks m t (get_segment m d id size alignment wait task priority ticks)
  unfolding get_segment every Passed
  keeps_get =
      kept_checked asks m d t v _ _ (sound_inv m d t v) (wait_refuses d wait task priority)
      (λ c. let s = slot_entry_lem m (region_of d id) (t.regions id) (v.picture.regions id) c.1.0 in
      let z : 0 < size = let y = eqb-false size 0 c.0 in omega arith in
      subst (λ (r : Region). Kept asks m t (getting m d wait waiter r (need_of r size alignment))) (sym s.2.region)
      (rw ((shows m s.0 s.2.is).needs size alignment, (shows m s.0 s.2.is).asked size)
      (act_kept s.0 s.1 s.2.is z (allows_get (region_of d id) s.0 s.2 c.1.1.0 c.1.1.1.0)
      (serves_get (region_of d id) s.0 s.2 z c.1.1.1.1.0) c.1.1.1.1.1)))

-- ---- a task waits

module _ (task : ℕ) where
  already_within : (ws : List Wait) → waits_already task ws ≡ true → In task (tasks_of ws)
  already_within ws e =
      let r = in_some (λ w. eqb w.task task) ws e in
      subst (λ (a : ℕ). In a (tasks_of ws)) (eqb-true r.0.task task r.2) (in_tasks r.0 ws r.1)

  within_already : (ws : List Wait) → In task (tasks_of ws) → waits_already task ws ≡ true
  within_already ws h = let r = task_in task ws h in some_in (λ w. eqb w.task task) ws r.0 r.1 (eq-eqb r.0.task task r.2)

module _ (m : List ℕ) (d : Manager) (t : Receipts) (v : Inv m d t) where
  -- A TASK WAITS IN THE RECORD EXACTLY WHERE IT WAITS BY THE RECEIPTS
  waiting_within : (task : ℕ) → ¬ (task ≡ 0) → waiting d task ≡ true → In task (tasks_of t.waits)
  waiting_within task n e =
      let r = in_some (λ w. eqb w.task task) d.waiters e in
      let k = tasks - length (waiters_of (in_line t)) in
      let i = subst (λ (l : List Waiter). In r.0 l) v.waits.queue r.1 in
      let f : r.0.task ≡ task = eqb-true r.0.task task r.2 in
      elim ((in_append r.0 (waiters_of (in_line t)) (replicate k no_waiter)).0 i) [
        | inl h ↦ let w = in_waiters r.0 (in_line t) h in
            subst (λ (a : ℕ). In a (tasks_of t.waits)) (ap (λ (x : Waiter). x.task) w.2 ∙ f)
            (in_tasks w.0 t.waits ((in_all_waits t w.0).0 w.1))
        | inr h ↦ absurd (n (sym f ∙ ap (λ (x : Waiter). x.task) (sym (in_replicate k no_waiter r.0 h))))
      ]

  task_already : (task : ℕ) → ¬ (task ≡ 0) → waiting d task ≡ waits_already task t.waits
  task_already task n =
      by_case (waits_already task t.waits) (λ b. waiting d task ≡ b)
      (λ e. task_waits d t v.waits task (already_within task t.waits e))
      (λ e. by_case (waiting d task) (λ b. b ≡ false)
      (λ f. absurd (true_false (waits_already task t.waits) (within_already task t.waits (waiting_within task n f)) e))
      (λ f. refl))

  -- IT IS ANSWERED AS THE RECEIPTS SAY
  wait_agree : (w : asking.Wait) (task priority : ℕ) (act : Result) (r : Reply) → Agree m d [] [] act r
      → Agree m d (wait_checks d w task priority) (waiting_checks t w task priority) act r
  wait_agree No task priority act r a = a
  wait_agree Yes task priority act r a =
      test refl (λ n. same (same (same (test (task_already task (eqb-false task 0 n)) (λ z. a)))))

  got_by : (e : RegionEntry) (w : asking.Wait) (x : Waiter) (m' : List ℕ) (g : Option ℕ)
      → reply_of (on_place g (λ p. done m' d (address_of (region_for e) p)) (unplaced m d w x)) ≡ on_place g (λ p. yes (address_in e p)) (no_place w)
  got_by e w x m' (Some p) = refl
  got_by e No x m' None = refl
  got_by e Yes x m' None = refl

  replies_get : (id size alignment : ℕ) (wait : asking.Wait) (task priority ticks : ℕ)
      → reply_of (get_segment m d id size alignment wait task priority ticks) ≡ by_receipts (length m) t (GetSegment id size alignment wait task priority ticks)
  unfolding get_segment by_receipts
  replies_get id size alignment wait task priority ticks =
      let w : Waiter = record { task = task; region = id; size = size; alignment = alignment; priority = priority; ticks = ticks } in
      answers m d _ _ _ (sound_inv m d t v)
      (agree (test refl (λ n. rest
      (at_region m d (region_of d id) (t.regions id) (v.picture.regions id)
      (λ r. check (not ((kind r).aligns alignment)) NotDefined
      ∷ check (not (is_alignment r.page alignment)) InvalidSize
      ∷ check (not (servable r (need_of r size alignment))) InvalidSize
      ∷ wait_checks d wait task priority)
      (λ r. getting m d wait w r (need_of r size alignment)) _
      (λ _ e is q p.
      let x = shows m e is in
      let k = need_in e size alignment in
      let z : 0 < size = let y = eqb-false size 0 n in omega arith in
      rw (x.needs size alignment, x.asked size) (agree (test (ap not (x.knows alignment)) (λ a. same (test (ap not (x.servable size alignment z)) (λ s.
      wait_agree wait task priority _ _ (acted
      (got_by e wait w (taken m (region_for e) k) (placed m (region_for e) k)
      ∙ ap (λ (g : Option ℕ). on_place g (λ p. yes (address_in e p)) (no_place wait)) (x.placed size alignment z)))))))))))))

  pub right : (id size alignment : ℕ) (wait : asking.Wait) (task priority ticks : ℕ)
      → Right (GetSegment id size alignment wait task priority ticks) m t (get_segment m d id size alignment wait task priority ticks)
  right id size alignment wait task priority ticks =
      record {
        kept = keeps_get m d t v id size alignment wait task priority ticks;
        replies = replies_get id size alignment wait task priority ticks;
      }

-- ONE CALL GIVES EACH TASK AT MOST ONE NOTICE, so that all notices have places in the answer. The idea is a balance, kept by each step of
-- serving and by the tick: of the tasks that pass a test, those told and those that still wait are as many as waited before. In a sound
-- record no task waits twice, and a place that is used has a task. Assumes nothing.
use Rattle.std.specs.Prelude.{Option, None, Some}
use Prim.Native.Nat.{ℕ, suc, ◌+◌, ◌-◌, ◌*◌, ◌≤◌, ◌<◌}
use mathlib.Core.Path.{◌≡◌, refl, sym, ap, ◌∙◌}
use mathlib.Core.Bool.{Bool, true, false, cond, not}
use mathlib.Core.List.{List, [], ◌∷◌, ◌++◌}
use mathlib.Core.Logic.{inl, inr}
use native.Mathlib.Omega.{arith}
use lib.ListN.{length, get_or, replicate}
use lib.Dec.{eqb}
use borrow.Author.Tests.{eqb-true, eqb-false, eq-eqb, ne_eqb, not-true}
use Rattle.manager.specs.Lists.{every, count, pairwise, In, Distinct}
use Rattle.manager.specs.Record.{tasks, no_waiter, region_of}
use Rattle.manager.specs.Result.{Result, Check, tasks_told, done, replied}
use Rattle.manager.specs.Region.{held_at, can_have, changed, pages_asked, need_of, placed, taken, address_of}
use Rattle.manager.specs.Kind.{on_place}
use Rattle.manager.specs.Queue.{first_of, waits_for, remove_at, dequeue, staying, leaving, aged, expired, after_tick}
use Rattle.manager.specs.Serve.{Served, quiet, granted, telling, behind, serve, serve_after, from_served}
use Rattle.manager.specs.Sound.{sound, sound_queue, sound_waiter, sound_place, empty_waiter, other_task}
use Rattle.manager.specs.Regions.{answered, unplaced, create_region, ident_region, delete_region, get_segment, return_segment, segment_size, resize_segment, region_information, tick}
use Rattle.manager.specs.Partitions.{create_partition, ident_partition, delete_partition, get_buffer, return_buffer}
use Rattle.manager.specs.Perform.{perform}
use Rattle.manager.specs.declared.Manager.{Manager}
use Rattle.manager.specs.declared.Call.{Call}
use Rattle.manager.specs.declared.Call.TheVariants.{CreateRegion, IdentRegion, DeleteRegion, GetSegment, ReturnSegment, SegmentSize, ResizeSegment, RegionInformation, CreatePartition, IdentPartition, DeletePartition, GetBuffer, ReturnBuffer, Tick}
use Rattle.manager.specs.declared.Wait.{Wait}
use Rattle.manager.specs.declared.Wait.TheVariants.{No, Yes}
use Rattle.manager.specs.declared.Status.TheVariants.{Unsatisfied}
use Rattle.manager.specs.declared.Waiter.{Waiter}
use Rattle.manager.specs.declared.Notice.{Notice}
use Rattle.manager.proofs.Laws.Lists.{and_first, and_second, index_passes}
use Rattle.manager.proofs.Laws.Appended.{by_case, every_append, count_append, count_none, count_most, count_all}
use Rattle.manager.proofs.Laws.Serve.{by_queue, by_after}
use Rattle.manager.proofs.Laws.Sound.{sound_queue_lem}
use Rattle.manager.proofs.Laws.Queue.{count_remove, length_remove, sound_every, empty_waiter_lem, stay_length, length_pad}
use Rattle.manager.proofs.Laws.Result.{by_answer}

-- ---- THE BALANCE

-- of the tasks that pass a test, how many wait and how many are told
abbrev queued : (ℕ → Bool) → List Waiter → ℕ
queued p ws = count (λ w. p w.task) ws

abbrev noted : (ℕ → Bool) → List Notice → ℕ
noted p ns = count (λ n. p n.task) ns

-- those told by serving and those who wait then are those who waited
abbrev Balanced : (ℕ → Bool) → Manager → Served → Type 0
Balanced p d s = noted p s.notices + queued p s.manager.waiters ≡ queued p d.waiters

module _ (p : ℕ → Bool) (z : p 0 ≡ false) where
  quiet_balanced : (m : List ℕ) (d : Manager) → Balanced p d (quiet m d)
  unfolding count
  quiet_balanced m d = omega arith

  -- one is told and leaves
  told_balanced : (d : Manager) (i a : ℕ) (s : Served) → Balanced p (dequeue d i) s → Balanced p d (telling (granted (get_or d.waiters i no_waiter) a) s)
  unfolding count dequeue
  told_balanced d i a s e =
      let w = get_or d.waiters i no_waiter in
      let n = noted p s.notices in
      let r = count_remove (λ v. p v.task) z i d.waiters in
      by_case (p w.task)
      (λ b. cond b (suc (queued p (remove_at i d.waiters))) (queued p (remove_at i d.waiters)) ≡ queued p d.waiters
      → cond b (suc n) n + queued p s.manager.waiters ≡ queued p d.waiters)
      (λ _ h. omega arith) (λ _ h. omega arith) r

  served_balanced : (m : List ℕ) (d : Manager) (id : ℕ) → Balanced p d (serve m d id)
  served_balanced m d id =
      by_queue id (λ m d s. Balanced p d s) quiet_balanced (λ m d h a s e. told_balanced d (first_of id d.waiters) a s e) m d

  -- one serving after another
  behind_balanced : (d : Manager) (s s' : Served) → Balanced p d s → Balanced p s.manager s' → Balanced p d (behind s.notices s')
  behind_balanced d s s' e f = omega (arith, count_append (λ (n : Notice). p n.task) s.notices s'.notices, e, f)

  after_balanced : (ns : List Notice) (m : List ℕ) (d : Manager) → Balanced p d (serve_after ns m d)
  after_balanced = by_after (Balanced p) quiet_balanced served_balanced behind_balanced

  -- a tick: those sent away, and those who stay
  leave_balanced : (ws : List Waiter) → noted p (leaving ws) + queued p (staying ws) ≡ queued p ws
  unfolding leaving staying count
  leave_balanced [] = refl
  leave_balanced (w ∷ ws) =
      let ih = leave_balanced ws in
      let n = noted p (leaving ws) in
      let k = queued p (staying ws) in
      by_case (eqb w.ticks 1)
      (λ b. noted p (cond b (expired w ∷ leaving ws) (leaving ws)) + queued p (cond b (staying ws) (aged w ∷ staying ws)) ≡ cond (p w.task) (suc (queued p ws)) (queued p ws))
      (λ _. by_case (p w.task) (λ b. cond b (suc n) n + k ≡ cond b (suc (queued p ws)) (queued p ws)) (λ _. omega arith) (λ _. omega arith))
      (λ _. by_case (p w.task) (λ b. n + cond b (suc k) k ≡ cond b (suc (queued p ws)) (queued p ws)) (λ _. omega arith) (λ _. omega arith))

  tick_balanced : (m : List ℕ) (d : Manager) → Balanced p d (behind (leaving d.waiters) (serve_after (leaving d.waiters) m (after_tick d)))
  unfolding after_tick
  tick_balanced m d =
      let ns = leaving d.waiters in
      let s = serve_after ns m (after_tick d) in
      let r = replicate (tasks - length (staying d.waiters)) no_waiter in
      omega (
        arith,
        count_append (λ (n : Notice). p n.task) ns s.notices,
        after_balanced ns m (after_tick d),
        count_append (λ (w : Waiter). p w.task) (staying d.waiters) r,
        count_none (λ (w : Waiter). p w.task) no_waiter z (tasks - length (staying d.waiters)),
        leave_balanced d.waiters,
      )

-- ---- EVERY NOTICE IS A TASK'S

abbrev some_task : ℕ → Bool
some_task a = not (eqb a 0)

abbrev Named : List Notice → Type 0
Named ns = every (λ n. some_task n.task) ns ≡ true

pub first_waits : (id : ℕ) (ws : List Waiter) → first_of id ws < length ws → some_task (get_or ws (first_of id ws) no_waiter).task ≡ true
first_waits id ws h =
    let w = get_or ws (first_of id ws) no_waiter in
    and_first (not (eqb w.task 0)) (eqb w.region id) (index_passes no_waiter (waits_for id) ws h)

named_append : (ns ms : List Notice) → Named ns → Named ms → Named (ns ++ ms)
named_append ns ms e f = rw (every_append (λ (n : Notice). some_task n.task) ns ms, e, f)

-- serving keeps the number of places, and tells only those who wait
record Tells (d : Manager) (s : Served) : Type 0 where
  places : length s.manager.waiters ≡ length d.waiters
  named : length d.waiters ≡ tasks → Named s.notices

quiet_tells : (m : List ℕ) (d : Manager) → Tells d (quiet m d)
unfolding every
quiet_tells m d = record { places = refl; named = λ n. refl }

served_tells : (m : List ℕ) (d : Manager) (id : ℕ) → Tells d (serve m d id)
unfolding dequeue every
served_tells m d id =
    by_queue id (λ m d s. Tells d s) quiet_tells
    (λ m d h a s t.
    let l = length_remove (first_of id d.waiters) d.waiters in
    record { places = t.places ∙ l; named = λ n. rw (first_waits id d.waiters (omega arith)) (t.named (l ∙ n)) })
    m d

behind_tells : (d : Manager) (s s' : Served) → Tells d s → Tells s.manager s' → Tells d (behind s.notices s')
behind_tells d s s' a b =
    record { places = b.places ∙ a.places; named = λ n. named_append s.notices s'.notices (a.named n) (b.named (a.places ∙ n)) }

after_tells : (ns : List Notice) (m : List ℕ) (d : Manager) → Tells d (serve_after ns m d)
after_tells = by_after Tells quiet_tells served_tells behind_tells

-- in a sound record an unused place has no ticks, so that nobody is sent away from it
sent_named : (m : List ℕ) (d : Manager) (w : Waiter) → w.ticks ≡ 1 → sound_place m d w ≡ true → some_task w.task ≡ true
unfolding sound_place
sent_named m d w t e =
    by_case (eqb w.task 0) (λ b. cond b (empty_waiter w) (sound_waiter m d w) ≡ true → not b ≡ true)
    (λ _ f. absurd (omega (arith, t, ap (λ (v : Waiter). v.ticks) (empty_waiter_lem w f)))) (λ _ _. refl) e

leave_named : (m : List ℕ) (d : Manager) (ws : List Waiter) → every (sound_place m d) ws ≡ true → Named (leaving ws)
unfolding leaving every
leave_named m d [] e = refl
leave_named m d (w ∷ ws) e =
    let ih = leave_named m d ws (and_second (sound_place m d w) _ e) in
    by_case (eqb w.ticks 1) (λ b. Named (cond b (expired w ∷ leaving ws) (leaving ws)))
    (λ t. rw (sent_named m d w (eqb-true w.ticks 1 t) (and_first (sound_place m d w) _ e)) ih) (λ _. ih)

-- ---- EACH TASK ONCE

-- in a sound queue no task waits twice
none_again : (w : Waiter) (a : ℕ) → 1 ≤ a → w.task ≡ a → (ws : List Waiter) → every (other_task w) ws ≡ true → queued (eqb a) ws ≡ 0
unfolding every count
none_again w a h e [] t = refl
none_again w a h e (x ∷ ws) t =
    let o = and_first (other_task w x) (every (other_task w) ws) t in
    let n : eqb w.task x.task ≡ false = not-true _ (rw (ne_eqb w.task 0 (λ z. omega arith)) at o) in
    rw (ne_eqb a x.task (λ z. eqb-false w.task x.task n (e ∙ z))) (none_again w a h e ws (and_second (other_task w x) _ t))

waits_once : (a : ℕ) → 1 ≤ a → (ws : List Waiter) → pairwise other_task ws ≡ true → queued (eqb a) ws ≤ 1
unfolding pairwise count
waits_once a h [] e = omega arith
waits_once a h (w ∷ ws) e =
    let ih = waits_once a h ws (and_second (every (other_task w) ws) _ e) in
    by_case (eqb a w.task) (λ b. cond b (suc (queued (eqb a) ws)) (queued (eqb a) ws) ≤ 1)
    (λ t. omega (arith, none_again w a h (sym (eqb-true a w.task t)) ws (and_first (every (other_task w) ws) _ e))) (λ _. ih)

-- notices of which each task has one at most, and none is of task 0
once_listed : (a : ℕ) (ns : List Notice) → In a (tasks_told ns) → 1 ≤ noted (eqb a) ns
unfolding In tasks_told count
once_listed a [] h = absurd h
once_listed a (n ∷ ns) (inl e) = rw (eq-eqb a n.task (sym e)) (omega arith)
once_listed a (n ∷ ns) (inr h) =
    let ih = once_listed a ns h in
    by_case (eqb a n.task) (λ b. 1 ≤ cond b (suc (noted (eqb a) ns)) (noted (eqb a) ns)) (λ _. omega arith) (λ _. ih)

once_told : (ns : List Notice) → Named ns → ((a : ℕ) → 1 ≤ a → noted (eqb a) ns ≤ 1) → Distinct (tasks_told ns)
unfolding Distinct tasks_told every count
once_told [] e h = tt
once_told (n ∷ ns) e h =
    let t = not-true (eqb n.task 0) (and_first (some_task n.task) _ e) in
    let s : 1 ≤ n.task = (let z = eqb-false n.task 0 t in omega arith) in (
      λ i. (let k : suc (noted (eqb n.task) ns) ≤ 1 = rw (eq-eqb n.task n.task refl) at (h n.task s) in omega (arith, once_listed n.task ns i)),
      once_told ns (and_second (some_task n.task) _ e) (λ a l. fewer a (h a l)),
    )
  where
    fewer : (a : ℕ) → cond (eqb a n.task) (suc (noted (eqb a) ns)) (noted (eqb a) ns) ≤ 1 → noted (eqb a) ns ≤ 1
    fewer a = by_case (eqb a n.task) (λ b. cond b (suc (noted (eqb a) ns)) (noted (eqb a) ns) ≤ 1 → noted (eqb a) ns ≤ 1) (λ _ k. omega arith) (λ _ k. k)

-- WHAT IS SHOWN OF AN ANSWER'S NOTICES: each task has one at most, and they have places
pub record Once (s : Result) : Type 0 where
  pub once : Distinct (tasks_told s.notices)
  pub few : length s.notices ≤ tasks

pub no_notices : (s : Result) → s.notices ≡ [] → Once s
unfolding tasks_told Distinct
no_notices s e = record { once = rw e tt; few = rw e (omega arith) }

-- where they are in balance with a sound queue
sound_tasks : (m : List ℕ) (d : Manager) → sound m d ≡ true → pairwise other_task d.waiters ≡ true
unfolding sound_queue
sound_tasks m d ok = and_first (pairwise other_task d.waiters) _ (and_second (every (sound_place m d) d.waiters) _ (sound_queue_lem m d ok))

once_balanced : (m : List ℕ) (d : Manager) → sound m d ≡ true → length d.waiters ≡ tasks → (s : Served) → Named s.notices
    → ((p : ℕ → Bool) → p 0 ≡ false → Balanced p d s) → (v : ℕ) → Once (from_served v s)
once_balanced m d ok n s e b v =
    record {
      once = once_told s.notices e (λ a h. omega (arith, b (eqb a) (ne_eqb a 0 (λ z. omega arith)), waits_once a h d.waiters (sound_tasks m d ok)));
      few = omega (
        arith,
        count_all (λ (x : Notice). some_task x.task) s.notices e,
        b some_task refl,
        count_most (λ (w : Waiter). some_task w.task) d.waiters,
      );
    }

-- ---- EVERY CALL

-- by where a search ends
on_place_lem : (g : Option ℕ) (f : ℕ → Result) (r : Result) → ((p : ℕ) → Once (f p)) → Once r → Once (on_place g f r)
on_place_lem (Some p) f r h e = h p
on_place_lem None f r h e = e

-- a refusal tells nobody, nor does an action without notices
module _ (m : List ℕ) (d : Manager) (cs : List Check) (act : Result) where
  by_notices : (sound m d ≡ true → Once act) → Once (answered (sound m d) m d cs act)
  unfolding every
  by_notices h =
      by_answer m d cs act Once (λ s. true) (every_any cs) (λ _. no_notices _ refl) (λ _ s _. no_notices _ refl) (λ e _. h e)
    where
      every_any : (cs : List Check) → every (λ c. true) cs ≡ true
      every_any [] = refl
      every_any (c ∷ cs) = every_any cs

module _ (m : List ℕ) (d : Manager) (n : length d.waiters ≡ tasks) where
  -- serving in any memory, by the queue of a sound record
  served_once : sound m d ≡ true → (m' : List ℕ) (id v : ℕ) → Once (from_served v (serve m' d id))
  served_once ok m' id v =
      once_balanced m d ok n (serve m' d id) ((served_tells m' d id).named n) (λ p z. served_balanced p z m' d id) v

  return_once : (id a : ℕ) → Once (return_segment m d id a)
  unfolding return_segment
  return_once id a = by_notices m d _ _ (λ ok. served_once ok _ id 0)

  resize_once : (id a size : ℕ) → Once (resize_segment m d id a size)
  unfolding resize_segment
  resize_once id a size =
      let r = region_of d id in
      let k = pages_asked r size in
      let old = held_at m r a * r.page in
      by_notices m d _ _ (λ ok.
      by_case (can_have m r a k) (λ b. Once (cond b (from_served old (serve (changed m r a k) d id)) (replied m d Unsatisfied old)))
      (λ _. served_once ok (changed m r a k) id old) (λ _. no_notices _ refl))

  tick_once : Once (tick m d)
  unfolding tick after_tick
  tick_once =
      let ns = leaving d.waiters in
      by_notices m d [] _ (λ ok.
      once_balanced m d ok n (behind ns (serve_after ns m (after_tick d)))
      (named_append ns _ (leave_named m d d.waiters (sound_every m d (sound_queue_lem m d ok))) ((after_tells ns m (after_tick d)).named tick_places))
      (λ p z. tick_balanced p z m d) 0)
    where
      tick_places : length (after_tick d).waiters ≡ tasks
      tick_places = length_pad tasks (staying d.waiters) (omega (arith, stay_length d.waiters))

  -- a get tells nobody: its task waits, or has its answer
  get_once : (id size alignment : ℕ) (wait : Wait) (task priority ticks : ℕ) → Once (get_segment m d id size alignment wait task priority ticks)
  unfolding get_segment
  get_once id size alignment wait task priority ticks =
      let r = region_of d id in
      let n = need_of r size alignment in
      let w : Waiter = record { task = task; region = id; size = size; alignment = alignment; priority = priority; ticks = ticks } in
      by_notices m d
      _
      (on_place (placed m r n) (λ p. done (taken m r n) d (address_of r p)) (unplaced m d wait w))
      (λ ok. on_place_lem (placed m r n) (λ p. done (taken m r n) d (address_of r p)) (unplaced m d wait w) (λ p. no_notices _ refl) (waits wait w))
    where
      waits : (wait : Wait) (w : Waiter) → Once (unplaced m d wait w)
      waits No w = no_notices _ refl
      waits Yes w = no_notices _ refl

  -- EVERY CALL TELLS EACH TASK AT MOST ONE THING, and all of it has a place
  pub told_once : (c : Call) → Once (perform m d c)
  unfolding perform create_region ident_region delete_region segment_size region_information create_partition ident_partition delete_partition get_buffer return_buffer
  told_once (CreateRegion name start bytes page order) = by_notices m d _ _ (λ ok. no_notices _ refl)
  told_once (IdentRegion name) = by_notices m d _ _ (λ ok. no_notices _ refl)
  told_once (DeleteRegion id) = by_notices m d _ _ (λ ok. no_notices _ refl)
  told_once (GetSegment id size alignment wait task priority ticks) = get_once id size alignment wait task priority ticks
  told_once (ReturnSegment id address) = return_once id address
  told_once (SegmentSize id address) = by_notices m d _ _ (λ ok. no_notices _ refl)
  told_once (ResizeSegment id address size) = resize_once id address size
  told_once (RegionInformation id) = by_notices m d _ _ (λ ok. no_notices _ refl)
  told_once (CreatePartition name start bytes size) = by_notices m d _ _ (λ ok. no_notices _ refl)
  told_once (IdentPartition name) = by_notices m d _ _ (λ ok. no_notices _ refl)
  told_once (DeletePartition id) = by_notices m d _ _ (λ ok. no_notices _ refl)
  told_once (GetBuffer id) = by_notices m d _ _ (λ ok. no_notices _ refl)
  told_once (ReturnBuffer id address) = by_notices m d _ _ (λ ok. no_notices _ refl)
  told_once Tick = tick_once

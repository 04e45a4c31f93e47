-- The waits of a sound record: its used places, each as a wait that has begun with the ticks that it has left. Assumes nothing.
use mathlib.Core.Path.{◌≡◌, refl, sym, ap, ◌∙◌, subst}
use mathlib.Core.Bool.{Bool, true, false, cond, not, true≢false}
use mathlib.Core.List.{List, [], ◌∷◌, ◌++◌}
use mathlib.Core.Logic.{◌⊎◌, inl, inr, ⊎_elim}
use Prim.Native.Nat.{ℕ, suc, ◌-◌, ◌≤◌}
use native.Mathlib.Nat.{eq-zero-or-pos, sub-zero}
use native.Mathlib.Omega.{arith}
use lib.ListN.{length, replicate}
use lib.Dec.{eqb, leb}
use borrow.Author.Tests.{eqb-false, leb-true, not-true}
use Rattle.manager.specs.Lists.{every, any as someOf, pairwise, adjacent, In, Distinct}
use Rattle.manager.proofs.Laws.Lists.{and_first, and_second}
use Rattle.manager.specs.Map.{Segment, is_held_segment}
use Rattle.manager.specs.Record.{tasks, no_waiter, slot_of, region_of}
use Rattle.manager.specs.Region.{kind, first_page_of, dead, pages_of, is_alignment, need_of, servable, any_held, segments}
use Rattle.manager.specs.Queue.{goes_before}
use Rattle.manager.specs.Sound.{unused, sound_waiter, sound_place, other_task, in_order, sound_region}
use Rattle.manager.proofs.Laws.Sound.{live_of}
use Rattle.manager.proofs.Laws.Queue.{empty_waiter_lem}
use Rattle.manager.proofs.Laws.Distinct.{either}
use Rattle.manager.specs.declared.Manager.{Manager}
use Rattle.manager.specs.declared.Region.{Region}
use Rattle.manager.specs.declared.Waiter.{Waiter}
use Rattle.trace.specs.Reading.{loans_of}
use Rattle.trace.specs.Receipts.{Receipts, Wait}
use Rattle.trace.specs.Replies.{lends_any, region_now}
use Rattle.trace.specs.Claims.{waiter_of, waiters_of}
use Rattle.trace.proofs.Invariant.{region_as, WaitIs, tasks_of}
use Rattle.trace.proofs.Loans.Addresses.{address_none}
use Rattle.trace.proofs.Loans.Says.{any_says}
use Rattle.trace.proofs.Reconstruct.Region.{entry_of, slot_entry, region_back, region_parts}
use Rattle.trace.proofs.Segments.{law}
use Rattle.trace.proofs.Servable.{allows, record_serves}

-- a waiter as a wait, and the used places of a queue
abbrev pub wait_for : Waiter → Wait
wait_for w = record { task = w.task; id = w.region; size = w.size; alignment = w.alignment; priority = w.priority; ticks = w.ticks; since = 0 }

unfoldable pub waits_of : List Waiter → List Wait
waits_of [] = []
waits_of (w ∷ ws) = cond (unused w) (waits_of ws) (wait_for w ∷ waits_of ws)

pub waits_skip : (w : Waiter) (ws : List Waiter) → unused w ≡ true → waits_of (w ∷ ws) ≡ waits_of ws
unfolding waits_of
waits_skip w ws e = rw e

pub waits_cons : (w : Waiter) (ws : List Waiter) → unused w ≡ false → waits_of (w ∷ ws) ≡ wait_for w ∷ waits_of ws
unfolding waits_of
waits_cons w ws e = rw e

pub waiter_back : (w : Waiter) → waiter_of (wait_for w) ≡ w
waiter_back w =
    let e : w.ticks - 0 ≡ w.ticks = sub-zero w.ticks in
    λ i. record { task = w.task; region = w.region; size = w.size; alignment = w.alignment; priority = w.priority; ticks = e i }

-- ---- the used places come first

pub adjacent_tail : {A : Type 0} (t : A → A → Bool) (x : A) (l : List A) → adjacent t (x ∷ l) ≡ true → adjacent t l ≡ true
unfolding adjacent
adjacent_tail t x [] e = refl
adjacent_tail t x (y ∷ l) e = and_second (t x y) (adjacent t (y ∷ l)) e

pub adjacent_next : {A : Type 0} (t : A → A → Bool) (x y : A) (l : List A) → adjacent t (x ∷ y ∷ l) ≡ true → t x y ≡ true
unfolding adjacent
adjacent_next t x y l e = and_first (t x y) (adjacent t (y ∷ l)) e

pub every_here : {A : Type 0} (t : A → Bool) (x : A) (l : List A) → every t (x ∷ l) ≡ true → t x ≡ true
unfolding every
every_here t x l e = and_first (t x) (every t l) e

pub every_tail : {A : Type 0} (t : A → Bool) (x : A) (l : List A) → every t (x ∷ l) ≡ true → every t l ≡ true
unfolding every
every_tail t x l e = and_second (t x) (every t l) e

module _ (m : List ℕ) (d : Manager) where
  place_unused : (w : Waiter) → sound_place m d w ≡ true → unused w ≡ true → w ≡ no_waiter
  unfolding sound_place
  place_unused w e f = empty_waiter_lem w (rw f (rw f at e))

  -- behind an unused place all are unused
  next_unused : (w x : Waiter) → in_order d w x ≡ true → unused w ≡ true → unused x ≡ true
  unfolding goes_before
  next_unused w x e f = ⊎_elim (λ (g : unused x ≡ true). g) (λ (g : unused x ≡ false). absurd (true≢false (sym (rw (g, f) at e)))) (either (unused x))

  pub all_unused : (w : Waiter) (ws : List Waiter) → every (sound_place m d) (w ∷ ws) ≡ true → adjacent (in_order d) (w ∷ ws) ≡ true → unused w ≡ true
      → (w ∷ ws ≡ replicate (suc (length ws)) no_waiter) × (waits_of (w ∷ ws) ≡ [])
  unfolding waits_of
  all_unused w [] e o f = (ap (λ (x : Waiter). x ∷ []) (place_unused w (every_here (sound_place m d) w [] e) f), waits_skip w [] f)
  all_unused w (x ∷ ws) e o f =
      let r = all_unused x ws (every_tail (sound_place m d) w (x ∷ ws) e) (adjacent_tail (in_order d) w (x ∷ ws) o) (next_unused w x (adjacent_next (in_order d) w x ws o) f) in
      let z : w ≡ no_waiter = place_unused w (every_here (sound_place m d) w (x ∷ ws) e) f in
      (ap (λ (y : Waiter). y ∷ x ∷ ws) z ∙ ap (λ (l : List Waiter). no_waiter ∷ l) r.0, waits_skip w (x ∷ ws) f ∙ r.1)

  -- THE QUEUE IS ITS USED PLACES, and unused ones behind them
  pub queue_back : (ws : List Waiter) → every (sound_place m d) ws ≡ true → adjacent (in_order d) ws ≡ true
      → ws ≡ waiters_of (waits_of ws) ++ replicate (length ws - length (waiters_of (waits_of ws))) no_waiter
  unfolding waits_of waiters_of
  queue_back [] e o = refl
  queue_back (w ∷ ws) e o = go (either (unused w)) (queue_back ws (every_tail (sound_place m d) w ws e) (adjacent_tail (in_order d) w ws o))
    where
      go : (unused w ≡ true) ⊎ (unused w ≡ false) → ws ≡ waiters_of (waits_of ws) ++ replicate (length ws - length (waiters_of (waits_of ws))) no_waiter
          → w ∷ ws ≡ waiters_of (waits_of (w ∷ ws)) ++ replicate (suc (length ws) - length (waiters_of (waits_of (w ∷ ws)))) no_waiter
      go (inl f) ih =
          let r = all_unused w ws e o f in
          let z : suc (length ws) - 0 ≡ suc (length ws) = sub-zero (suc (length ws)) in
          subst (λ (l : List Wait). w ∷ ws ≡ waiters_of l ++ replicate (suc (length ws) - length (waiters_of l)) no_waiter) (sym r.1) (rw z r.0)
      go (inr f) ih =
          let z : suc (length ws) - suc (length (waiters_of (waits_of ws))) ≡ length ws - length (waiters_of (waits_of ws)) = omega arith in
          subst (λ (l : List Wait). w ∷ ws ≡ waiters_of l ++ replicate (suc (length ws) - length (waiters_of l)) no_waiter) (sym (waits_cons w ws f))
          (rw z (ap (λ (x : Waiter). x ∷ ws) (sym (waiter_back w)) ∙ ap (λ (l : List Waiter). waiter_of (wait_for w) ∷ l) ih))

-- ---- each wait, and each task once

-- a map with something held has a loan
pub some_loan : (at : ℕ) (s : List Segment) → someOf is_held_segment s ≡ true → ¬ (loans_of at s ≡ [])
some_loan at s e n = true≢false (sym e ∙ any_says at s ∙ ap lends_any n)

-- the clauses of a used place
pub record WaiterParts (m : List ℕ) (r : Region) (w : Waiter) : Type 0 where
  pub task_most : w.task ≤ tasks
  pub alive : dead r ≡ false
  pub lending : any_held m r ≡ true
  pub size_some : 1 ≤ w.size
  pub known : (kind r).aligns w.alignment ≡ true
  pub allowed : is_alignment r.page w.alignment ≡ true
  pub size_most : servable r (need_of r w.size w.alignment) ≡ true
  pub priority_some : 1 ≤ w.priority
  pub priority_most : w.priority ≤ 255

pub waiter_parts : (m : List ℕ) (d : Manager) (w : Waiter) → sound_place m d w ≡ true → unused w ≡ false → WaiterParts m (region_of d w.region) w
unfolding sound_place sound_waiter
waiter_parts m d w e f =
    let r = region_of d w.region in
    let g : sound_waiter m d w ≡ true = rw f at e in
    let t = leb w.task tasks in
    let h = any_held m r in
    let s = leb 1 w.size in
    let k = (kind r).aligns w.alignment in
    let a = is_alignment r.page w.alignment in
    let u = servable r (need_of r w.size w.alignment) in
    let p = leb 1 w.priority in
    let q = leb w.priority 255 in
    let g₁ = and_second t _ g in
    let g₂ = and_second (not (dead r)) _ g₁ in
    let g₃ = and_second h _ g₂ in
    let g₄ = and_second s _ g₃ in
    let g₅ = and_second k _ g₄ in
    let g₆ = and_second a _ g₅ in
    let g₇ = and_second u _ g₆ in
    record {
      task_most = leb-true w.task tasks (and_first t _ g);
      alive = not-true (dead r) (and_first (not (dead r)) _ g₁);
      lending = and_first h _ g₂;
      size_some = leb-true 1 w.size (and_first s _ g₃);
      known = and_first k _ g₄;
      allowed = and_first a _ g₅;
      size_most = and_first u _ g₆;
      priority_some = leb-true 1 w.priority (and_first p q g₇);
      priority_most = leb-true w.priority 255 (and_second p q g₇);
    }

module _ (m : List ℕ) (d : Manager) (t : Receipts) (entries : (id : ℕ) → t.regions id ≡ slot_entry m (region_of d id))
    (sounds : (id : ℕ) → sound_region m (region_of d id) ≡ true) (nows : (id : ℕ) → ¬ ((region_of d id).name ≡ 0) → id ≡ region_now t (slot_of id)) where
  pub wait_is : (w : Waiter) → sound_place m d w ≡ true → unused w ≡ false → WaitIs t (wait_for w)
  wait_is w e f =
      let r = region_of d w.region in
      let p = waiter_parts m d w e f in
      let q = region_parts m r (live_of m r (sounds w.region) p.alive) in
      let x = entry_of m r in
      let b : r ≡ region_as r.generation x = region_back m r q.whole in
      record {
        entry = entry_of m r;
        found = entries w.region ∙ rw p.alive;
        lending = λ n. some_loan (first_page_of r) (segments m r) p.lending (address_none r.page (loans_of (first_page_of r) (segments m r)) n);
        id_now_lem = nows w.region (eqb-false r.name 0 p.alive);
        task_some = let y = eqb-false w.task 0 f in omega arith;
        task_most = p.task_most;
        size_some = p.size_some;
        alignment = allows x w.alignment (sym ((law x).aligns w.alignment) ∙ p.known)
            (subst (λ (y : Region). is_alignment y.page w.alignment ≡ true) b p.allowed);
        size_most = record_serves x (omega (arith, q.least)) (subst (λ (y : Region). 1 ≤ pages_of y) b q.some_page) w.size w.alignment p.size_some
            (subst (λ (y : Region). servable y (need_of y w.size w.alignment) ≡ true) b p.size_most);
        priority_some = p.priority_some;
        priority_most = p.priority_most;
        time = eq-zero-or-pos w.ticks;
      }

  pub each_wait : (ws : List Waiter) → every (sound_place m d) ws ≡ true → (x : Wait) → In x (waits_of ws) → WaitIs t x
  unfolding In waits_of
  each_wait [] e x h = absurd h
  each_wait (w ∷ ws) e x h = go (either (unused w)) (each_wait ws (every_tail (sound_place m d) w ws e) x)
    where
      go : (unused w ≡ true) ⊎ (unused w ≡ false) → (In x (waits_of ws) → WaitIs t x) → WaitIs t x
      go (inl f) ih = ih (subst (In x) (waits_skip w ws f) h)
      go (inr f) ih =
          ⊎_elim (λ (q : wait_for w ≡ x). subst (WaitIs t) q (wait_is w (every_here (sound_place m d) w ws e) f)) ih (subst (In x) (waits_cons w ws f) h)

-- a task is not among those of places that have other tasks
other_tasks : (w : Waiter) (ws : List Waiter) → unused w ≡ false → every (other_task w) ws ≡ true → ¬ In w.task (tasks_of (waits_of ws))
unfolding In tasks_of waits_of
other_tasks w [] f e = λ (h : ⊥). h
other_tasks w (x ∷ ws) f e = go (either (unused x)) (other_tasks w ws f (every_tail (other_task w) x ws e))
  where
    go : (unused x ≡ true) ⊎ (unused x ≡ false) → ¬ In w.task (tasks_of (waits_of ws)) → ¬ In w.task (tasks_of (waits_of (x ∷ ws)))
    go (inl g) ih = rw g ih
    go (inr g) ih =
        let n : eqb w.task x.task ≡ false = not-true (eqb w.task x.task) (rw f at (every_here (other_task w) x ws e)) in
        rw g (⊎_elim (λ (q : x.task ≡ w.task). eqb-false w.task x.task n (sym q)) ih)

-- EACH TASK WAITS ONCE
pub tasks_once : (ws : List Waiter) → pairwise other_task ws ≡ true → Distinct (tasks_of (waits_of ws))
unfolding Distinct tasks_of waits_of pairwise
tasks_once [] e = tt
tasks_once (w ∷ ws) e = go (either (unused w)) (tasks_once ws (and_second (every (other_task w) ws) (pairwise other_task ws) e))
  where
    go : (unused w ≡ true) ⊎ (unused w ≡ false) → Distinct (tasks_of (waits_of ws)) → Distinct (tasks_of (waits_of (w ∷ ws)))
    go (inl f) ih = rw f ih
    go (inr f) ih = rw f (other_tasks w ws f (and_first (every (other_task w) ws) (pairwise other_task ws) e), ih)

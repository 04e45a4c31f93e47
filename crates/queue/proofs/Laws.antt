-- What a step of the queue's functions does to a list, over plain variables. Assumes nothing.
use Rattle.std.proofs.Common.{ℕ, suc, ◌+◌, ◌-◌, ◌<◌, ◌≤◌, ◌≡◌, refl, sym, ap, ◌∙◌, arith, Bool, true, false, cond, List, [], ◌∷◌, ◌++◌, length, take, drop, set, get_or, ltb, Option, Some, None}
use Rattle.std.proofs.lemmas.List.{set_split, drop-set-lt}
use Rattle.std.proofs.Math.Seq.{take_all, take-suc-set, drop-cons, append_snoc}
use Rattle.std.proofs.Math.ListN.{drop_of_length-le, length-drop, length-set}
use Rattle.std.proofs.Math.Numerals.{add-one}
use mathlib.Core.List.{append-nil}
use borrow.Rule.Slice.PartMut.{put_mid}
use Rattle.manager.specs.declared.Manager.{Manager}
use Rattle.manager.specs.declared.Waiter.{Waiter}
use Rattle.manager.specs.declared.Order.{Order}
use Rattle.manager.specs.Record.{tasks, no_waiter, region_of, with_queue}
use Rattle.manager.specs.Lists.{index_of}
use Rattle.manager.specs.Queue.{goes_before, push, insert, pull, remove_at, enqueue, dequeue}
use Rattle.objects.specs.Slots.{below}
use Rattle.objects.proofs.Searched.{place_missing, place_found, place_within}

-- a search that is bounded by the length of the list is bounded by that number
pub found_within : (n m i : ℕ) (r : Option ℕ) → n ≡ m → r ≡ cond (ltb i n) (Some i) None → r ≡ below m i
found_within n m i r e f = f ∙ ap (λ (k : ℕ). below k i) e

-- PUSH: each place gets what is carried, and what stood there goes on; c is what place i gets
module _ (c : Waiter) (a : List Waiter) (i : ℕ) where
  push_step : i < length a → take (suc i) (set a i c) ++ push (get_or a i no_waiter) (drop (suc i) (set a i c)) ≡ take i a ++ push c (drop i a)
  unfolding push
  push_step h = rw (take-suc-set a i c h, drop-set-lt (suc i) a i c (omega arith), drop-cons a i no_waiter h, append_snoc) refl

  push_end : length a ≤ i → take i a ++ push c (drop i a) ≡ a
  unfolding push
  push_end h = rw (drop_of_length-le a {i = i} h, append-nil, take_all i a h) refl

-- the places before i are done
pub record Pushing (w : Waiter) (ws : List Waiter) (a : List Waiter) (c : Waiter) (i : ℕ) : Type 0 where
  pub size : length a ≡ length ws
  pub rest : take i a ++ push c (drop i a) ≡ push w ws

module _ (w : Waiter) (ws : List Waiter) where
  pub push_start : Pushing w ws ws w 0
  push_start = record { size = refl; rest = refl }

  module _ (a : List Waiter) (c : Waiter) (i : ℕ) (v : Pushing w ws a c i) where
    pub push_next : i < length a → (x : Waiter) → x ≡ get_or a i no_waiter → Pushing w ws (set a i c) x (i + 1)
    push_next h x e = record { size = length-set a i c ∙ v.size; rest = rw (e, add-one) (push_step c a i h ∙ v.rest) }

    pub pushed : length a ≤ i → a ≡ push w ws
    pushed h = sym (push_end c a i h) ∙ v.rest

pub ruleset pushing = (push_start, push_next, pushed)

-- PULL: each place gets what stands behind it, and the last is unused then
module _ (a : List Waiter) (p : ℕ) where
  pull_step : suc p < length a
      → take (suc p) (set a p (get_or a (suc p) no_waiter)) ++ pull (drop (suc p) (set a p (get_or a (suc p) no_waiter))) ≡ take p a ++ pull (drop p a)
  pull_step h =
      let g : p < length a = omega arith in
      rw (take-suc-set a p (get_or a (suc p) no_waiter) g, drop-set-lt (suc p) a p (get_or a (suc p) no_waiter) (omega arith), drop-cons a p no_waiter g, drop-cons a (suc p) no_waiter h, append_snoc) refl

  pull_end : length a ≡ suc p → set a p no_waiter ≡ take p a ++ pull (drop p a)
  pull_end h =
      let g : p < length a = omega arith in
      rw (set_split a p no_waiter g, drop-cons a p no_waiter g, drop_of_length-le a {i = suc p} (omega arith)) refl

-- the places in front of the one before i are done
pub record Pulling (ws a : List Waiter) (i : ℕ) : Type 0 where
  pub size : length a ≡ length ws
  pub within : i - 1 ≤ length ws - 1
  pub rest : take (i - 1) a ++ pull (drop (i - 1) a) ≡ pull ws

none_left : (ws a : List Waiter) → length a ≡ length ws → length a ≤ 0 → a ≡ pull ws
none_left [] [] e h = refl
none_left (x ∷ ws) [] e h = absurd (omega (arith, e))
none_left [] (y ∷ a) e h = absurd (omega (arith, h))
none_left (x ∷ ws) (y ∷ a) e h = absurd (omega (arith, h))

module _ (ws : List Waiter) where
  pub pull_start : Pulling ws ws 1
  pull_start = record { size = refl; within = omega arith; rest = refl }

  module _ (a : List Waiter) (i : ℕ) (v : Pulling ws a i) where
    pub pull_next : 1 ≤ i → i < length a → (x : Waiter) → x ≡ get_or a i no_waiter → Pulling ws (set a (i - 1) x) (i + 1)
    pull_next k h x e =
        let s : i ≡ suc (i - 1) = omega arith in
        let n : i + 1 - 1 ≡ suc (i - 1) = omega arith in
        let g : suc (i - 1) < length a = omega arith in
        record { size = length-set a (i - 1) x ∙ v.size; within = omega (arith, v.size); rest = rw (n, e ∙ ap (λ (j : ℕ). get_or a j no_waiter) s) (pull_step a (i - 1) g ∙ v.rest) }

    pub pulled : 0 < length a → length a ≤ i → (z : Waiter) → z ≡ no_waiter → set a (length a - 1) z ≡ pull ws
    pulled k h z u =
        let e : length a - 1 ≡ i - 1 = omega (arith, v.size, v.within) in
        rw (u, e) (pull_end a (i - 1) (omega arith) ∙ v.rest)

    pub pulled_none : length a ≤ 0 → a ≡ pull ws
    pulled_none h = none_left ws a v.size h

pub ruleset pulling = (pull_start, pull_next, pulled, pulled_none)

-- THE QUEUE FROM A PLACE ON, put back after a change
module _ (ws ys : List Waiter) (i : ℕ) (h : i ≤ length ws) where
  put_end : put_mid i (length ws - i) ws ys ≡ take i ws ++ ys
  put_end =
      ap (λ (l : List Waiter). take i ws ++ (ys ++ l)) (drop_of_length-le (drop i ws) {i = length ws - i} (omega (arith, length-drop i ws)))
      ∙ ap (λ (l : List Waiter). take i ws ++ l) (append-nil ys)

  all_behind : take (length ws - i) (drop i ws) ≡ drop i ws
  all_behind = take_all (length ws - i) (drop i ws) (omega (arith, length-drop i ws))

-- w goes to the first place whose waiter it goes before
insert_at : (o : Order) (w : Waiter) (ws : List Waiter)
    → insert o w ws ≡ take (index_of (goes_before o w) ws) ws ++ push w (drop (index_of (goes_before o w) ws) ws)
unfolding insert index_of push
insert_at o w [] = refl
insert_at o w (x ∷ ws) = by_test (goes_before o w x) refl (insert_at o w ws)
  where
    by_test : (b : Bool) → goes_before o w x ≡ b → insert o w ws ≡ take (index_of (goes_before o w) ws) ws ++ push w (drop (index_of (goes_before o w) ws) ws)
        → insert o w (x ∷ ws) ≡ take (index_of (goes_before o w) (x ∷ ws)) (x ∷ ws) ++ push w (drop (index_of (goes_before o w) (x ∷ ws)) (x ∷ ws))
    by_test true e h = rw e
    by_test false e h = rw (e, h)

module _ (d : Manager) (n : length d.waiters ≡ tasks) where
  module _ (w : Waiter) (o : Order) (e : o ≡ (region_of d w.region).order) where
    pub enqueued : (at : ℕ) → Some at ≡ below tasks (index_of (goes_before o w) d.waiters) → (ys : List Waiter)
        → ys ≡ push w (take (length d.waiters - at) (drop at d.waiters)) → with_queue d (put_mid at (length d.waiters - at) d.waiters ys) ≡ enqueue d w
    unfolding enqueue
    enqueued at f ys g =
        let i : ℕ = index_of (goes_before o w) d.waiters in
        let k : at ≤ length d.waiters = omega (arith, n, place_within tasks i at f) in
        ap (with_queue d) (put_end d.waiters ys at k ∙ ap (λ (l : List Waiter). take at d.waiters ++ l) (g ∙ ap (push w) (all_behind d.waiters ys at k))
        ∙ ap (λ (j : ℕ). take j d.waiters ++ push w (drop j d.waiters)) (place_found tasks i at f) ∙ sym (insert_at o w d.waiters)
        ∙ ap (λ (q : Order). insert q w d.waiters) e)

    pub enqueued_none : None ≡ below tasks (index_of (goes_before o w) d.waiters) → d ≡ enqueue d w
    unfolding enqueue push
    enqueued_none f =
        let i : ℕ = index_of (goes_before o w) d.waiters in
        let k : length d.waiters ≤ i = omega (arith, n, place_missing tasks i f) in
        ap (with_queue d) (sym (ap (λ (q : Order). insert q w d.waiters) (sym e) ∙ insert_at o w d.waiters
        ∙ rw (drop_of_length-le d.waiters {i = i} k) (append-nil (take i d.waiters) ∙ take_all i d.waiters k)))

  module _ (i : ℕ) where
    pub dequeued : i < tasks → (ys : List Waiter) → ys ≡ pull (take (length d.waiters - i) (drop i d.waiters))
        → with_queue d (put_mid i (length d.waiters - i) d.waiters ys) ≡ dequeue d i
    unfolding dequeue remove_at
    dequeued h ys g =
        let k : i ≤ length d.waiters = omega (arith, n) in
        ap (with_queue d) (put_end d.waiters ys i k ∙ ap (λ (l : List Waiter). take i d.waiters ++ l) (g ∙ ap pull (all_behind d.waiters ys i k)))

    pub dequeued_none : tasks ≤ i → d ≡ dequeue d i
    unfolding dequeue remove_at
    dequeued_none h =
        let k : length d.waiters ≤ i = omega (arith, n) in
        ap (with_queue d) (sym (rw (drop_of_length-le d.waiters {i = i} k) (append-nil (take i d.waiters) ∙ take_all i d.waiters k)))

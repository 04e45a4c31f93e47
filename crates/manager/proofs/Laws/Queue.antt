-- What entering, leaving and the tick do to the queue's array, read as a list with unused places behind it (`pad`); and what is said of
-- every place stays so. Assumes nothing.
use Prim.Native.Nat.{ℕ, zero, suc, ◌-◌, ◌≤◌, ◌+◌, ◌<◌}
use mathlib.Core.Path.{◌≡◌, refl, ap, ◌∙◌}
use mathlib.Core.Bool.{Bool, true, false, cond}
use mathlib.Core.List.{List, [], ◌∷◌, ◌++◌, append-nil, append_assoc}
use borrow.Author.Tests.{eqb-true}
use lib.Dec.{eqb}
use lib.ListN.{length, get_or, replicate, length-append, length-replicate, replicate-append-replicate}
use Rattle.manager.specs.Record.{no_waiter}
use Rattle.manager.specs.Lists.{every, count}
use Rattle.manager.proofs.Laws.Lists.{and_first, and_second}
use Rattle.manager.specs.Queue.{remove_at, dequeue, aged, staying, expired, leaving, goes_before, push, insert}
use Rattle.manager.proofs.Laws.Appended.{by_case, and_both, every_behind, count_append}
use Rattle.manager.specs.Sound.{sound_place, sound_queue, empty_waiter}
use Rattle.manager.specs.declared.Manager.{Manager}
use Rattle.manager.specs.declared.Waiter.{Waiter}
use native.Mathlib.Omega.{arith}
use Rattle.manager.specs.Result.{pad}
use Rattle.manager.specs.declared.Notice.{Notice}
use Rattle.manager.specs.declared.Order.{Order}

-- WHAT IS SAID OF EVERY PLACE
every_remove : (t : Waiter → Bool) → t no_waiter ≡ true → (i : ℕ) (l : List Waiter) → every t l ≡ true → every t (remove_at i l) ≡ true
unfolding every remove_at
every_remove t z zero [] e = refl
every_remove t z (suc i) [] e = refl
every_remove t z zero (x ∷ l) e = every_behind t no_waiter z l 1 ∙ and_second (t x) (every t l) e
every_remove t z (suc i) (x ∷ l) e =
    and_both (t x) _ (and_first (t x) (every t l) e) (every_remove t z i l (and_second (t x) (every t l) e))

module _ (d : Manager) (i : ℕ) where
  pub dequeue_every : (t : Waiter → Bool) → t no_waiter ≡ true → every t d.waiters ≡ true → every t (dequeue d i).waiters ≡ true
  unfolding dequeue
  dequeue_every t z e = every_remove t z i d.waiters e

-- one taken out of a queue, at any place: it counts no more
pub count_remove : (t : Waiter → Bool) → t no_waiter ≡ false → (i : ℕ) (ws : List Waiter)
    → cond (t (get_or ws i no_waiter)) (suc (count t (remove_at i ws))) (count t (remove_at i ws)) ≡ count t ws
unfolding count remove_at
count_remove t z zero [] = rw z
count_remove t z (suc i) [] = rw z
count_remove t z zero (w ∷ ws) =
    let e : count t (ws ++ (no_waiter ∷ [])) ≡ count t ws = count_append t ws (no_waiter ∷ []) ∙ rw z (omega arith) in
    by_case (t w) (λ v. cond v (suc (count t (ws ++ (no_waiter ∷ [])))) (count t (ws ++ (no_waiter ∷ []))) ≡ cond v (suc (count t ws)) (count t ws))
    (λ _. ap suc e) (λ _. e)
count_remove t z (suc i) (w ∷ ws) =
    let ih = count_remove t z i ws in
    let n = count t (remove_at i ws) in
    by_case (t w) (λ v. cond (t (get_or ws i no_waiter)) (suc (cond v (suc n) n)) (cond v (suc n) n) ≡ cond v (suc (count t ws)) (count t ws))
    (λ _. by_case (t (get_or ws i no_waiter)) (λ b. cond b (suc n) n ≡ count t ws → cond b (suc (suc n)) (suc n) ≡ suc (count t ws)) (λ _ h. ap suc h) (λ _ h. ap suc h) ih)
    (λ _. ih)

-- and there are as many places
pub length_remove : (i : ℕ) (ws : List Waiter) → length (remove_at i ws) ≡ length ws
unfolding remove_at
length_remove zero [] = refl
length_remove (suc i) [] = refl
length_remove zero (w ∷ ws) = length-append ws (no_waiter ∷ []) ∙ omega arith
length_remove (suc i) (w ∷ ws) = ap suc (length_remove i ws)

pub sound_every : (m : List ℕ) (d : Manager) → sound_queue m d ≡ true → every (sound_place m d) d.waiters ≡ true
unfolding sound_queue
sound_every m d e = and_first (every (sound_place m d) d.waiters) _ e

-- PADDED LISTS
-- a list with unused places behind it, so many that they make up n, is the padded list
pub padded : (n k : ℕ) (ws : List Waiter) → length ws + k ≡ n → ws ++ replicate k no_waiter ≡ pad n no_waiter ws
padded n k ws e = let h : k ≡ n - length ws = omega arith in ap (λ (j : ℕ). ws ++ replicate j no_waiter) h

-- ENTERING, with an unused place left
-- w in a list, before the first that it goes before
unfoldable pub enter : Order → Waiter → List Waiter → List Waiter
enter o w [] = w ∷ []
enter o w (x ∷ xs) = cond (goes_before o w x) (w ∷ x ∷ xs) (x ∷ enter o w xs)

push_room : (w : Waiter) (ws : List Waiter) (k : ℕ) → push w (ws ++ replicate (suc k) no_waiter) ≡ w ∷ ws ++ replicate k no_waiter
unfolding push
push_room w [] zero = refl
push_room w [] (suc k) = ap (λ (l : List Waiter). w ∷ l) (push_room no_waiter [] k)
push_room w (x ∷ ws) k = ap (λ (l : List Waiter). w ∷ l) (push_room x ws k)

pub insert_room : (o : Order) (w : Waiter) (ws : List Waiter) (k : ℕ)
    → insert o w (ws ++ replicate (suc k) no_waiter) ≡ enter o w ws ++ replicate k no_waiter
unfolding insert enter goes_before
insert_room o w [] k = push_room w [] k
insert_room o w (x ∷ ws) k =
    let h = insert_room o w ws k in
    by_case (goes_before o w x)
    (λ b. cond b (push w (x ∷ ws ++ replicate (suc k) no_waiter)) (x ∷ insert o w (ws ++ replicate (suc k) no_waiter)) ≡ cond b (w ∷ x ∷ ws) (x ∷ enter o w ws) ++ replicate k no_waiter)
    (λ _. push_room w (x ∷ ws) k) (λ _. ap (λ (l : List Waiter). x ∷ l) h)

pub length_enter : (o : Order) (w : Waiter) (ws : List Waiter) → length (enter o w ws) ≡ suc (length ws)
unfolding enter
length_enter o w [] = refl
length_enter o w (x ∷ ws) =
    let h = length_enter o w ws in
    by_case (goes_before o w x) (λ b. length (cond b (w ∷ x ∷ ws) (x ∷ enter o w ws)) ≡ suc (suc (length ws))) (λ _. refl) (λ _. ap suc h)

pub insert_pad : (o : Order) (w : Waiter) (n : ℕ) (ws : List Waiter) → length ws < n → insert o w (pad n no_waiter ws) ≡ pad n no_waiter (enter o w ws)
insert_pad o w n ws h =
    let k : n - length ws ≡ suc (n - suc (length ws)) = omega arith in
    ap (λ (j : ℕ). insert o w (ws ++ replicate j no_waiter)) k ∙ insert_room o w ws (n - suc (length ws))
    ∙ padded n (n - suc (length ws)) (enter o w ws) (omega (arith, length_enter o w ws))

-- THE TICK
pub stay_append : (a b : List Waiter) → staying (a ++ b) ≡ staying a ++ staying b
unfolding staying
stay_append [] b = refl
stay_append (w ∷ a) b =
    let h = stay_append a b in
    by_case (eqb w.ticks 1) (λ u. cond u (staying (a ++ b)) (aged w ∷ staying (a ++ b)) ≡ cond u (staying a) (aged w ∷ staying a) ++ staying b) (λ _. h)
    (λ _. ap (λ (l : List Waiter). aged w ∷ l) h)

pub stay_none : (k : ℕ) → staying (replicate k no_waiter) ≡ replicate k no_waiter
unfolding staying
stay_none zero = refl
stay_none (suc k) = ap (λ (l : List Waiter). no_waiter ∷ l) (stay_none k)

pub stay_length : (ws : List Waiter) → length (staying ws) ≤ length ws
unfolding staying
stay_length [] = omega arith
stay_length (w ∷ ws) =
    let h = stay_length ws in
    by_case (eqb w.ticks 1) (λ u. length (cond u (staying ws) (aged w ∷ staying ws)) ≤ suc (length ws)) (λ _. omega arith) (λ _. omega arith)

pub leave_append : (a b : List Waiter) → leaving (a ++ b) ≡ leaving a ++ leaving b
unfolding leaving
leave_append [] b = refl
leave_append (w ∷ a) b =
    let h = leave_append a b in
    by_case (eqb w.ticks 1) (λ u. cond u (expired w ∷ leaving (a ++ b)) (leaving (a ++ b)) ≡ cond u (expired w ∷ leaving a) (leaving a) ++ leaving b)
    (λ _. ap (λ (l : List Notice). expired w ∷ l) h) (λ _. h)

pub leave_none : (k : ℕ) → leaving (replicate k no_waiter) ≡ []
unfolding leaving
leave_none zero = refl
leave_none (suc k) = leave_none k

pub pad_more : (n k : ℕ) (ws : List Waiter) → length ws + k ≤ n → pad n no_waiter (ws ++ replicate k no_waiter) ≡ pad n no_waiter ws
pad_more n k ws h =
    let e : length (ws ++ replicate k no_waiter) ≡ length ws + k = length-append ws (replicate k no_waiter) ∙ ap (λ (j : ℕ). length ws + j) (length-replicate k no_waiter) in
    append_assoc ws (replicate k no_waiter) _
    ∙ ap (λ (l : List Waiter). ws ++ l) (replicate-append-replicate k (n - length (ws ++ replicate k no_waiter)) no_waiter)
    ∙ padded n (k + (n - length (ws ++ replicate k no_waiter))) ws (omega arith)

pub tick_pad : (n : ℕ) (ws : List Waiter) → length ws ≤ n → pad n no_waiter (staying (pad n no_waiter ws)) ≡ pad n no_waiter (staying ws)
tick_pad n ws h =
    ap (pad n no_waiter) (stay_append ws _ ∙ ap (λ (l : List Waiter). staying ws ++ l) (stay_none (n - length ws)))
    ∙ pad_more n (n - length ws) (staying ws) (omega (arith, stay_length ws))

pub told_pad : (n : ℕ) (ws : List Waiter) → leaving (pad n no_waiter ws) ≡ leaving ws
told_pad n ws = leave_append ws _ ∙ rw (leave_none (n - length ws)) (append-nil (leaving ws))

pub length_pad : (n : ℕ) (ws : List Waiter) → length ws ≤ n → length (pad n no_waiter ws) ≡ n
length_pad n ws h = length-append ws _ ∙ rw (length-replicate (n - length ws) no_waiter) (omega arith)

-- AN UNUSED PLACE IS ALL ZEROS
made : (a b c d e f : ℕ) → a ≡ 0 → b ≡ 0 → c ≡ 0 → d ≡ 0 → e ≡ 0 → f ≡ 0
    → record { task = a; region = b; size = c; alignment = d; priority = e; ticks = f } ≡ no_waiter
made a b c d e f p q r s t u = rw (p, q, r, s, t, u)

pub empty_waiter_lem : (w : Waiter) → empty_waiter w ≡ true → w ≡ no_waiter
empty_waiter_lem w e =
    let r = and_second (eqb w.task 0) _ e in
    let s = and_second (eqb w.region 0) _ r in
    let t = and_second (eqb w.size 0) _ s in
    let p = and_second (eqb w.alignment 0) _ t in
    made _ _ _ _ _ _ (eqb-true _ _ (and_first (eqb w.task 0) _ e)) (eqb-true _ _ (and_first (eqb w.region 0) _ r))
    (eqb-true _ _ (and_first (eqb w.size 0) _ s)) (eqb-true _ _ (and_first (eqb w.alignment 0) _ t)) (eqb-true _ _ (and_first (eqb w.priority 0) _ p)) (eqb-true _ _ (and_second (eqb w.priority 0) _ p))

-- The tasks of waits: each waits once, so there are no more waits than tasks, a task names its wait, and a wait is struck by its task.
-- Assumes nothing.
use Rattle.std.specs.Prelude.{Some}
use mathlib.Core.Path.{◌≡◌, refl, sym, ap, ◌∙◌, subst}
use mathlib.Core.Bool.{Bool, true, cond, not}
use mathlib.Core.List.{List, [], ◌∷◌, ◌++◌}
use mathlib.Core.Logic.{◌⊎◌, inl, inr}
use Prim.Native.Nat.{ℕ, suc, ◌-◌, ◌≤◌, ◌<◌}
use native.Mathlib.Omega.{arith}
use lib.ListN.{length}
use lib.Dec.{eqb}
use borrow.Author.Tests.{eq-eqb, ne_eqb}
use Rattle.manager.proofs.Laws.Appended.{by_case}
use Rattle.manager.proofs.Laws.Distinct as distinct
use Rattle.manager.specs.Record.{slot_of, id_of}
use Rattle.manager.specs.Lists.{In, Distinct}
use Rattle.trace.specs.Loans.{Loan}
use Rattle.trace.specs.Receipts.{Receipts, with_loans, Wait, without, wait_of}
use Rattle.trace.specs.Queue.{insert_by, insert_all}
use Rattle.trace.proofs.Invariant.{WaitIs, tasks_of}
use Rattle.trace.proofs.Loans.Tests.{by_eqb}
use Rattle.trace.proofs.Queue.Line.{keep, in_insert, in_keep, in_append, keep_all}

-- NUMBERS FROM 1 TO n, EACH ONCE, ARE AT MOST n
pub few : (n : ℕ) (l : List ℕ) → Distinct l → ((a : ℕ) → In a l → (1 ≤ a) × (a ≤ n)) → length l ≤ n
few n l d h =
    distinct.few suc n l ((distinct.distinct_is l).1 d)
    (λ a p. let k = h a ((distinct.on_in a l).0 p) in (a - 1, omega arith, omega arith))

-- and fewer where one of 1 to n is missing
pub fewer : (n a : ℕ) (l : List ℕ) → Distinct l → ((b : ℕ) → In b l → (1 ≤ b) × (b ≤ n)) → 1 ≤ a → a ≤ n → ¬ In a l → length l < n
unfolding In Distinct
fewer n a l d h p q g =
    few n (a ∷ l) (g, d) (λ b m. elim m [ inl e ↦ subst (λ (c : ℕ). (1 ≤ c) × (c ≤ n)) e (p, q) | inr k ↦ h b k ])

-- A TASK AND ITS WAIT
pub length_tasks : (ws : List Wait) → length (tasks_of ws) ≡ length ws
unfolding tasks_of
length_tasks [] = refl
length_tasks (w ∷ ws) = ap suc (length_tasks ws)

pub in_tasks : (w : Wait) (ws : List Wait) → In w ws → In w.task (tasks_of ws)
unfolding In tasks_of
in_tasks w [] h = h
in_tasks w (x ∷ ws) (inl e) = inl (ap (λ (v : Wait). v.task) e)
in_tasks w (x ∷ ws) (inr h) = inr (in_tasks w ws h)

pub task_in : (a : ℕ) (ws : List Wait) → In a (tasks_of ws) → (w : Wait) × In w ws × (w.task ≡ a)
unfolding In tasks_of
task_in a [] h = absurd h
task_in a (x ∷ ws) (inl e) = (x, inl refl, e)
task_in a (x ∷ ws) (inr h) = let r = task_in a ws h in (r.0, inr r.1, r.2)

pub one_wait : (x y : Wait) (ws : List Wait) → Distinct (tasks_of ws) → In x ws → In y ws → x.task ≡ y.task → x ≡ y
unfolding In Distinct tasks_of
one_wait x y [] d h k e = absurd h
one_wait x y (w ∷ ws) d (inl h) (inl k) e = sym h ∙ k
one_wait x y (w ∷ ws) d (inl h) (inr k) e =
    absurd (d.0 (subst (λ (a : ℕ). In a (tasks_of ws)) (sym (ap (λ (v : Wait). v.task) h ∙ e)) (in_tasks y ws k)))
one_wait x y (w ∷ ws) d (inr h) (inl k) e =
    absurd (d.0 (subst (λ (a : ℕ). In a (tasks_of ws)) (e ∙ sym (ap (λ (v : Wait). v.task) k)) (in_tasks x ws h)))
one_wait x y (w ∷ ws) d (inr h) (inr k) e = one_wait x y ws d.1 h k e

pub wait_of_lem : (w : Wait) (ws : List Wait) → Distinct (tasks_of ws) → In w ws → wait_of w.task ws ≡ w
unfolding In wait_of tasks_of Distinct
wait_of_lem w [] d h = absurd h
wait_of_lem w (x ∷ ws) d (inl e) = rw (eq-eqb x.task w.task (ap (λ (v : Wait). v.task) e)) e
wait_of_lem w (x ∷ ws) d (inr h) =
    rw (ne_eqb x.task w.task (λ e. d.0 (subst (λ (a : ℕ). In a (tasks_of ws)) (sym e) (in_tasks w ws h)))) (wait_of_lem w ws d.1 h)

-- EACH TASK ONCE: of what is kept, of a line, and of one more
pub keep_once : (p : Wait → Bool) (ws : List Wait) → Distinct (tasks_of ws) → Distinct (tasks_of (keep p ws))
unfolding Distinct tasks_of keep
keep_once p [] d = d
keep_once p (w ∷ ws) d =
    let ih = keep_once p ws d.1 in
    by_case (p w) (λ t. Distinct (tasks_of (cond t (w ∷ keep p ws) (keep p ws)))) (λ t. (λ h. d.0 (kept h), ih)) (λ f. ih)
  where
    kept : In w.task (tasks_of (keep p ws)) → In w.task (tasks_of ws)
    kept h =
        let r = task_in w.task (keep p ws) h in
        subst (λ (a : ℕ). In a (tasks_of ws)) r.2 (in_tasks r.0 ws ((in_keep p r.0 ws).0 r.1).0)

insert_once : (lt : Wait → Wait → Bool) (w : Wait) (q : List Wait) → Distinct (tasks_of q) → ¬ In w.task (tasks_of q)
    → Distinct (tasks_of (insert_by lt w q))
unfolding Distinct In tasks_of insert_by
insert_once lt w [] d n = (λ h. h, tt)
insert_once lt w (x ∷ q) d n =
    let ih = insert_once lt w q d.1 (λ h. n (inr h)) in
    by_case (lt w x) (λ t. Distinct (tasks_of (cond t (w ∷ x ∷ q) (x ∷ insert_by lt w q)))) (λ t. (n, d)) (λ f. (other, ih))
  where
    other : ¬ In x.task (tasks_of (insert_by lt w q))
    other h =
        let r = task_in x.task (insert_by lt w q) h in
        elim ((in_insert lt w r.0 q).0 r.1) [
          | inl e ↦ n (inl (sym (ap (λ (v : Wait). v.task) e ∙ r.2)))
          | inr k ↦ d.0 (subst (λ (a : ℕ). In a (tasks_of q)) r.2 (in_tasks r.0 q k))
        ]

lined_once : (lt : Wait → Wait → Bool) (q ws : List Wait) → Distinct (tasks_of q) → Distinct (tasks_of ws)
    → ((a : ℕ) → In a (tasks_of q) → ¬ In a (tasks_of ws)) → Distinct (tasks_of (insert_all lt q ws))
unfolding Distinct In tasks_of insert_all
lined_once lt q [] d e n = d
lined_once lt q (w ∷ ws) d e n =
    lined_once lt (insert_by lt w q) ws (insert_once lt w q d (λ h. n w.task h (inl refl))) e.1 other
  where
    other : (a : ℕ) → In a (tasks_of (insert_by lt w q)) → ¬ In a (tasks_of ws)
    other a h k =
        let r = task_in a (insert_by lt w q) h in
        elim ((in_insert lt w r.0 q).0 r.1) [
          | inl f ↦ e.0 (subst (λ (b : ℕ). In b (tasks_of ws)) (sym (ap (λ (v : Wait). v.task) f ∙ r.2)) k)
          | inr m ↦ n a (subst (λ (b : ℕ). In b (tasks_of q)) r.2 (in_tasks r.0 q m)) (inr k)
        ]

pub line_once : (lt : Wait → Wait → Bool) (ws : List Wait) → Distinct (tasks_of ws) → Distinct (tasks_of (insert_all lt [] ws))
unfolding Distinct In tasks_of
line_once lt ws d = lined_once lt [] ws tt d (λ a h. absurd h)

pub append_once : (ws : List Wait) (w : Wait) → Distinct (tasks_of ws) → ¬ In w.task (tasks_of ws) → Distinct (tasks_of (ws ++ (w ∷ [])))
unfolding Distinct In tasks_of
append_once [] w d n = (λ h. h, tt)
append_once (x ∷ ws) w d n = (other, append_once ws w d.1 (λ h. n (inr h)))
  where
    other : ¬ In x.task (tasks_of (ws ++ (w ∷ [])))
    other h =
        let r = task_in x.task (ws ++ (w ∷ [])) h in
        elim ((in_append r.0 ws (w ∷ [])).0 r.1) [
          | inl m ↦ d.0 (subst (λ (a : ℕ). In a (tasks_of ws)) r.2 (in_tasks r.0 ws m))
          | inr m ↦ elim m [ inl e ↦ n (inl (sym (ap (λ (v : Wait). v.task) e ∙ r.2))) | inr z ↦ z ]
        ]

-- A WAIT STRUCK: all others are kept
abbrev pub not_of : ℕ → Wait → Bool
not_of a w = not (eqb w.task a)

not_of_lem : (a : ℕ) (w : Wait) → ¬ (w.task ≡ a) → not_of a w ≡ true
not_of_lem a w h = rw (ne_eqb w.task a h)

others : (a : ℕ) (ws : List Wait) → ¬ In a (tasks_of ws) → (x : Wait) → In x ws → not_of a x ≡ true
others a ws n x h = not_of_lem a x (λ e. n (subst (λ (b : ℕ). In b (tasks_of ws)) e (in_tasks x ws h)))

pub without_keep : (a : ℕ) (ws : List Wait) → Distinct (tasks_of ws) → without a ws ≡ keep (not_of a) ws
unfolding Distinct tasks_of without keep
without_keep a [] d = refl
without_keep a (w ∷ ws) d =
    let ih = without_keep a ws d.1 in
    by_eqb w.task a (λ t. cond t ws (w ∷ without a ws) ≡ cond (not t) (w ∷ keep (not_of a) ws) (keep (not_of a) ws))
    (λ e. sym (keep_all (not_of a) ws (others a ws (λ h. d.0 (subst (λ (b : ℕ). In b (tasks_of ws)) (sym e) h)))))
    (λ f. ap (◌∷◌ w) ih)

pub keep_others : (a : List Wait) (w : Wait) (b : List Wait) → Distinct (tasks_of (a ++ (w ∷ b))) → keep (not_of w.task) (a ++ (w ∷ b)) ≡ a ++ b
unfolding Distinct tasks_of keep In
keep_others [] w b d = rw (eq-eqb w.task w.task refl) (keep_all (not_of w.task) b (others w.task b d.0))
keep_others (x ∷ a) w b d =
    let n : ¬ (x.task ≡ w.task) = λ e. d.0 (subst (λ (c : ℕ). In c (tasks_of (a ++ (w ∷ b)))) (sym e)
    (in_tasks w (a ++ (w ∷ b)) ((in_append w a (w ∷ b)).1 (inr (inl refl))))) in
    rw (ne_eqb x.task w.task n) (ap (◌∷◌ x) (keep_others a w b d.1))

-- A WAIT IN OTHER RECEIPTS: it is one still, at another count of ticks as well, where its region lends something and time is left
abbrev pub counting : ℕ → Wait → Wait
counting n w = record { task = w.task; id = w.id; size = w.size; alignment = w.alignment; priority = w.priority; ticks = w.ticks; since = n }

pub wait_moved : (t u : Receipts) (w : Wait) (n : ℕ) (l : List Loan) (a : WaitIs t w) → u.regions w.id ≡ Some (with_loans l a.entry)
    → u.region_deletes (slot_of w.id) ≡ t.region_deletes (slot_of w.id) → ¬ (l ≡ []) → (w.ticks ≡ 0) ⊎ (n < w.ticks) → WaitIs u (counting n w)
wait_moved t u w n l a found same lending time =
    record {
      entry = with_loans l a.entry;
      found = found;
      lending = lending;
      id_now_lem = a.id_now_lem ∙ ap (id_of (slot_of w.id)) (sym same);
      task_some = a.task_some;
      task_most = a.task_most;
      size_some = a.size_some;
      alignment = record { known = a.alignment.known; multiple = a.alignment.multiple; most = a.alignment.most };
      size_most = a.size_most;
      priority_some = a.priority_some;
      priority_most = a.priority_most;
      time = time;
    }

-- where its region's entry is the same, and so are the deletes of its slot
pub wait_same : (t u : Receipts) (w : Wait) → WaitIs t w → u.regions w.id ≡ t.regions w.id
    → u.region_deletes (slot_of w.id) ≡ t.region_deletes (slot_of w.id) → WaitIs u w
wait_same t u w a e same = wait_moved t u w w.since a.entry.loans a (e ∙ a.found) same a.lending a.time

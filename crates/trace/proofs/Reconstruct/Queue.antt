-- A sound queue is in the order of the receipts that are read off it: each of its waits stands where it would have been put. Assumes
-- nothing.
use Rattle.std.specs.Prelude.{Some}
use mathlib.Core.Path.{◌≡◌, refl, sym, ap, ◌∙◌, subst}
use mathlib.Core.Bool.{Bool, true, false, ◌&&◌, true≢false}
use mathlib.Core.List.{List, [], ◌∷◌, ◌++◌, append_assoc, append-nil}
use mathlib.Core.Logic.{◌⊎◌, inl, inr}
use Prim.Native.Nat.{ℕ, ◌-◌}
use lib.ListN.{length, replicate}
use borrow.Author.Tests.{not-true}
use Rattle.manager.specs.Lists.{every, pairwise, adjacent, In, Distinct}
use Rattle.manager.proofs.Laws.Lists.{and_first, and_second}
use Rattle.manager.specs.Record.{tasks, no_waiter, region_of, slot_of}
use Rattle.manager.specs.Result.{pad}
use Rattle.manager.specs.Queue.{goes_before}
use Rattle.manager.proofs.Laws.Distinct.{either}
use Rattle.manager.specs.Sound.{unused, sound_place, other_task, in_order, sound_queue, sound_region}
use Rattle.manager.specs.declared.Manager.{Manager}
use Rattle.manager.specs.declared.Waiter.{Waiter}
use Rattle.manager.specs.declared.Order.{Order}
use Rattle.trace.specs.Receipts.{Receipts, Wait}
use Rattle.trace.specs.Queue.{insert_by, insert_all, order_in, orders, stands_before, in_line}
use Rattle.trace.specs.Replies.{region_now}
use Rattle.trace.specs.Claims.{waiters_of}
use Rattle.trace.proofs.Invariant.{WaitIs, tasks_of, Waits}
use Rattle.trace.proofs.Queue.Line.{Behind, Sorted, Strict}
use Rattle.trace.proofs.Queue.Order.{stands_strict, stands_is}
use Rattle.trace.proofs.Reconstruct.Region.{entry_of, slot_entry}
use Rattle.trace.proofs.Reconstruct.Waits.{waiter_parts, wait_is, each_wait, wait_for, waits_of, waits_cons, waits_skip, every_here, every_tail, adjacent_next, adjacent_tail, all_unused, queue_back, tasks_once}

-- ---- a line that is in order already

module _ {A : Type 0} (lt : A → A → Bool) where
  behind_mid : (x w : A) (q ws : List A) → Behind lt x (q ++ (w ∷ ws)) → lt w x ≡ false
  unfolding Behind
  behind_mid x w [] ws b = b.0
  behind_mid x w (y ∷ q) ws b = behind_mid x w q ws b.1

  insert_end : (w : A) (q ws : List A) → Sorted lt (q ++ (w ∷ ws)) → insert_by lt w q ≡ q ++ (w ∷ [])
  unfolding Sorted insert_by
  insert_end w [] ws s = refl
  insert_end w (x ∷ q) ws s = rw (behind_mid x w q ws s.0) (ap (λ (l : List A). x ∷ l) (insert_end w q ws s.1))

  pub line_sorted : (q ws : List A) → Sorted lt (q ++ ws) → insert_all lt q ws ≡ q ++ ws
  unfolding insert_all
  line_sorted q [] s = sym (append-nil q)
  line_sorted q (w ∷ ws) s =
      let e : (q ++ (w ∷ [])) ++ ws ≡ q ++ (w ∷ ws) = append_assoc q (w ∷ []) ws in
      ap (λ (l : List A). insert_all lt l ws) (insert_end w q ws s)
      ∙ line_sorted (q ++ (w ∷ [])) ws (subst (Sorted lt) (sym e) s)
      ∙ e

  -- who is behind one that stands behind w is behind w
  pub behind_next : Strict lt → (w x : A) (q : List A) → lt x w ≡ false → Behind lt x q → Behind lt w q
  unfolding Behind
  behind_next s w x [] e b = tt
  behind_next s w x (y ∷ q) e b = (step (lt y w) refl, behind_next s w x q e b.1)
    where
      step : (t : Bool) → lt y w ≡ t → lt y w ≡ false
      step true f = absurd (true≢false (sym (s.other y x w f e) ∙ b.0))
      step false f = f

-- ---- the waits that are read off a queue

module _ (m : List ℕ) (d : Manager) (t : Receipts) (entries : (id : ℕ) → t.regions id ≡ slot_entry m (region_of d id))
    (sounds : (id : ℕ) → sound_region m (region_of d id) ≡ true) (nows : (id : ℕ) → ¬ ((region_of d id).name ≡ 0) → id ≡ region_now t (slot_of id)) where
  abbrev is : (w : Waiter) → sound_place m d w ≡ true → unused w ≡ false → WaitIs t (wait_for w)
  is = wait_is m d t entries sounds nows

  order_of_lem : (w : Waiter) → sound_place m d w ≡ true → unused w ≡ false → orders t w.region ≡ (region_of d w.region).order
  order_of_lem w e f =
      let g : slot_entry m (region_of d w.region) ≡ Some (entry_of m (region_of d w.region)) = rw (waiter_parts m d w e f).alive in
      ap order_in (entries w.region ∙ g)

  -- a used place that stands before another does so by the receipts' order
  used_order : (w x : Waiter) → sound_place m d w ≡ true → sound_place m d x ≡ true → in_order d w x ≡ true → unused w ≡ false → unused x ≡ false
      → stands_before (orders t) (wait_for x) (wait_for w) ≡ false
  unfolding goes_before
  used_order w x a b e f g =
      sym (stands_is (orders t) t.region_deletes (wait_for x) (wait_for w) (is x b g).id_now_lem (is w a f).id_now_lem (is w a f).task_some)
      ∙ ap (λ (o : Order). goes_before o x w) (order_of_lem x b g) ∙ not-true (goes_before (region_of d x.region).order x w) (rw g at e)

  -- THE WAITS STAND IN THE RECEIPTS' ORDER
  pub sorted_read : (ws : List Waiter) → every (sound_place m d) ws ≡ true → adjacent (in_order d) ws ≡ true → Sorted (stands_before (orders t)) (waits_of ws)
  unfolding Sorted Behind waits_of
  sorted_read [] e o = tt
  sorted_read (w ∷ []) e o = one (either (unused w))
    where
      one : (unused w ≡ true) ⊎ (unused w ≡ false) → Sorted (stands_before (orders t)) (waits_of (w ∷ []))
      one (inl f) = rw f tt
      one (inr f) = rw f (tt, tt)
  sorted_read (w ∷ x ∷ ws) e o =
      go (either (unused w)) (either (unused x))
      (sorted_read (x ∷ ws) (every_tail (sound_place m d) w (x ∷ ws) e) (adjacent_tail (in_order d) w (x ∷ ws) o))
    where
      e' : every (sound_place m d) (x ∷ ws) ≡ true
      e' = every_tail (sound_place m d) w (x ∷ ws) e

      cons : unused w ≡ false → Behind (stands_before (orders t)) (wait_for w) (waits_of (x ∷ ws)) → Sorted (stands_before (orders t)) (waits_of (x ∷ ws)) → Sorted (stands_before (orders t)) (waits_of (w ∷ x ∷ ws))
      cons f b s = subst (Sorted (stands_before (orders t))) (sym (waits_cons w (x ∷ ws) f)) (b, s)

      go : (unused w ≡ true) ⊎ (unused w ≡ false) → (unused x ≡ true) ⊎ (unused x ≡ false) → Sorted (stands_before (orders t)) (waits_of (x ∷ ws)) → Sorted (stands_before (orders t)) (waits_of (w ∷ x ∷ ws))
      go (inl f) g s = subst (Sorted (stands_before (orders t))) (sym (waits_skip w (x ∷ ws) f)) s
      go (inr f) (inl g) s =
          let z : waits_of (x ∷ ws) ≡ [] = (all_unused m d x ws e' (adjacent_tail (in_order d) w (x ∷ ws) o) g).1 in
          cons f (subst (Behind (stands_before (orders t)) (wait_for w)) (sym z) tt) s
      go (inr f) (inr g) s =
          let z : waits_of (x ∷ ws) ≡ wait_for x ∷ waits_of ws = waits_cons x ws g in
          let s' : Sorted (stands_before (orders t)) (wait_for x ∷ waits_of ws) = subst (Sorted (stands_before (orders t))) z s in
          let l : stands_before (orders t) (wait_for x) (wait_for w) ≡ false =
          used_order w x (every_here (sound_place m d) w (x ∷ ws) e) (every_here (sound_place m d) x ws e') (adjacent_next (in_order d) w x ws o) f g in
          cons f (subst (Behind (stands_before (orders t)) (wait_for w)) (sym z) (l, behind_next (stands_before (orders t)) (stands_strict (orders t)) (wait_for w) (wait_for x) (waits_of ws) l s'.0)) s

  -- THE QUEUE OF A SOUND RECORD IS THAT OF THE RECEIPTS READ OFF IT
  pub waits_read : length d.waiters ≡ tasks → t.waits ≡ waits_of d.waiters → sound_queue m d ≡ true → Waits d t
  unfolding sound_queue
  waits_read nw z q =
      let ws = d.waiters in
      let e = and_first (every (sound_place m d) ws) (pairwise other_task ws && adjacent (in_order d) ws) q in
      let q₁ = and_second (every (sound_place m d) ws) (pairwise other_task ws && adjacent (in_order d) ws) q in
      let o = and_second (pairwise other_task ws) (adjacent (in_order d) ws) q₁ in
      let l : in_line t ≡ waits_of ws =
      ap (insert_all (stands_before (orders t)) []) z ∙ line_sorted (stands_before (orders t)) [] (waits_of ws) (sorted_read ws e o) in
      record {
        each = λ w h. each_wait m d t entries sounds nows ws e w (subst (In w) z h);
        once = subst (λ (x : List Wait). Distinct (tasks_of x)) (sym z) (tasks_once ws (and_first (pairwise other_task ws) (adjacent (in_order d) ws) q₁));
        queue =
            queue_back m d ws e o
            ∙ ap (λ (n : ℕ). waiters_of (waits_of ws) ++ replicate (n - length (waiters_of (waits_of ws))) no_waiter) nw
            ∙ ap (λ (x : List Wait). pad tasks no_waiter (waiters_of x)) (sym l);
      }

-- The waits of the receipts when the loans of one region change: the queue's picture stays, and so do the waits where something is lent or
-- nobody waits. Assumes nothing.
use Rattle.std.specs.Prelude.{Option, None, Some}
use mathlib.Core.Path.{◌≡◌, refl, sym, ap, ◌∙◌, subst, fun_ext}
use mathlib.Core.Bool.{Bool, true, false, cond}
use mathlib.Core.List.{List, [], ◌∷◌}
use mathlib.Core.Logic.{inl, inr}
use Prim.Native.Nat.{ℕ}
use native.Mathlib.Omega.{arith}
use lib.Dec.{eqb}
use borrow.Author.Tests.{eqb-true, eqb-false}
use Rattle.manager.specs.Record.{slot_of}
use Rattle.manager.specs.declared.Manager.{Manager}
use Rattle.manager.specs.Lists.{In}
use Rattle.trace.specs.Loans.{Loan, loan, enter}
use Rattle.trace.specs.Receipts.{Receipts, RegionEntry, Wait, update, with_loans, with_region_deletes}
use Rattle.trace.specs.Queue.{urgent_than, waits_in, queue_of, order_in, orders, stands_before, in_line}
use Rattle.trace.proofs.Invariant.{WaitIs, Waits}
use Rattle.trace.proofs.Loans.Tests.{by_eqb, by_leb}
use Rattle.trace.proofs.Queue.Order.{in_waits}
use Rattle.trace.proofs.Queue.Tasks.{wait_moved, wait_same}
use Rattle.trace.proofs.Queue.Line.{in_line_lem, line_same}
use Rattle.trace.proofs.Regions.Picture.{update_here, update_other, lending, registering}

-- nobody waits for a region
abbrev pub NoWait : Receipts → ℕ → Type 0
NoWait t id = (w : Wait) → In w t.waits → ¬ (w.id ≡ id)

module _ (d : Manager) (t : Receipts) (v : Waits d t) (id : ℕ) where
  -- for one that is not there
  pub none_there : t.regions id ≡ None → NoWait t id
  none_there q w i f =
      let x = v.each w i in
      let y : None ≡ Some x.entry = sym q ∙ ap t.regions (sym f) ∙ x.found in
      let z : ◌≡◌ {A = ℕ} 0 1 = cc in
      omega arith

  -- FOR A REGION THAT LENDS NOTHING
  pub none_lent : (e : RegionEntry) → t.regions id ≡ Some e → e.loans ≡ [] → NoWait t id
  none_lent e q n w i f =
      let x = v.each w i in
      let y : Some e ≡ Some x.entry = sym q ∙ ap t.regions (sym f) ∙ x.found in
      let s : x.entry ≡ e = cc in
      x.lending (ap (λ (g : RegionEntry). g.loans) s ∙ n)

-- for one whose queue is empty
pub none_queued : (t : Receipts) (id : ℕ) (e : RegionEntry) → queue_of id e t ≡ [] → NoWait t id
unfolding In
none_queued t id e q w i f =
    rw q at ((in_line_lem (urgent_than e.order) w [] (waits_in id t.waits)).1 (inr ((in_waits id w t.waits).1 (i, f))))

-- and the queue of one that nobody waits for
pub queue_none : (t : Receipts) (id : ℕ) (e : RegionEntry) → NoWait t id → queue_of id e t ≡ []
unfolding In
queue_none t id e n = go (queue_of id e t) (λ w h. h)
  where
    go : (q : List Wait) → ((w : Wait) → In w q → In w (queue_of id e t)) → q ≡ []
    go [] f = refl
    go (w ∷ q) f =
        elim ((in_line_lem (urgent_than e.order) w [] (waits_in id t.waits)).0 (f w (inl refl))) [
          | inl h ↦ absurd h
          | inr h ↦ let x = (in_waits id w t.waits).0 h in absurd (n w x.0 x.1)
        ]

-- ---- other loans of one region

module _ (t : Receipts) (id : ℕ) (e : RegionEntry) (q : t.regions id ≡ Some e) (l : List Loan) where
  -- it has the order that it had
  orders_lent : orders (lending id e l t) ≡ orders t
  orders_lent =
      fun_ext (λ j. by_eqb j id (λ (b : Bool). order_in (cond b (Some (with_loans l e)) (t.regions j)) ≡ order_in (t.regions j))
      (λ h. ap order_in (sym (ap t.regions h ∙ q))) (λ h. refl))

  -- a wait, where its region still lends
  wait_lent : (w : Wait) → WaitIs t w → (w.id ≡ id → ¬ (l ≡ [])) → WaitIs (lending id e l t) w
  wait_lent w a h = go (eqb w.id id) refl
    where
      go : (b : Bool) → eqb w.id id ≡ b → WaitIs (lending id e l t) w
      go true f =
          let s : w.id ≡ id = eqb-true w.id id f in
          let r : t.regions id ≡ Some a.entry = subst (λ (j : ℕ). t.regions j ≡ Some a.entry) s a.found in
          let g : a.entry ≡ e = cc in
          wait_moved t (lending id e l t) w w.since l a (rw (s, update_here id (Some (with_loans l e)) t.regions, g)) refl (h s) a.time
      go false f = wait_same t (lending id e l t) w a (update_other id (Some (with_loans l e)) t.regions w.id (eqb-false w.id id f)) refl

  -- THE WAITS STAY, where something is lent to each region that somebody waits for
  pub waits_lent : (d : Manager) → Waits d t → ((w : Wait) → In w t.waits → w.id ≡ id → ¬ (l ≡ [])) → Waits d (lending id e l t)
  waits_lent d v h =
      record {
        each = λ w m. wait_lent w (v.each w m) (h w m);
        once = v.once;
        queue = rw orders_lent v.queue;
      }

-- a loan entered leaves something lent
pub enter_some : (p k : ℕ) (l : List Loan) → ¬ (enter p k l ≡ [])
unfolding enter
enter_some p k [] = λ e. let z : ◌≡◌ {A = ℕ} 0 1 = cc in omega arith
enter_some p k (loan a n ∷ l) =
    by_leb p a (λ (b : Bool). ¬ (cond b (loan p k ∷ loan a n ∷ l) (loan a n ∷ enter p k l) ≡ []))
    (λ h e. let z : ◌≡◌ {A = ℕ} 0 1 = cc in omega arith)
    (λ h e. let z : ◌≡◌ {A = ℕ} 0 1 = cc in omega arith)

-- ---- another object under an id that nobody waits for, and deletes that are the same where somebody waits

module _ (t : Receipts) (id : ℕ) (o : Option RegionEntry) (nobody : NoWait t id) (deletes : ℕ → ℕ)
    (same : (w : Wait) → In w t.waits → deletes (slot_of w.id) ≡ t.region_deletes (slot_of w.id)) where
  line_registered : in_line (registering id o t) ≡ in_line t
  unfolding stands_before In
  line_registered =
      let other : (w : Wait) → ¬ (w.id ≡ id) → update id o t.regions w.id ≡ t.regions w.id = λ w. update_other id o t.regions w.id in
      line_same (λ w. ¬ (w.id ≡ id)) (stands_before (orders (registering id o t))) (stands_before (orders t)) (λ w x p r. rw (other w p, other x r)) [] t.waits (λ x m. absurd m) nobody

  -- THE WAITS STAY
  pub waits_registered : (d d' : Manager) → d'.waiters ≡ d.waiters → Waits d t → Waits d' (with_region_deletes deletes (registering id o t))
  waits_registered d d' e v =
      record {
        each = λ w m. wait_same t (with_region_deletes deletes (registering id o t)) w (v.each w m) (update_other id o t.regions w.id (nobody w m)) (same w m);
        once = v.once;
        queue = rw line_registered (e ∙ v.queue);
      }

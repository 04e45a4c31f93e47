-- The order of all waits is strict: by slot, within a region by its order, and those alike by arrival. So a region's queue is what the line
-- of all waits has of it. Assumes nothing.
use Rattle.std.specs.Prelude.{Option, Some}
use mathlib.Core.Path.{◌≡◌, refl, sym, ap, ◌∙◌}
use mathlib.Core.Bool.{Bool, true, false, cond, ◌&&◌, ◌||◌}
use mathlib.Core.List.{List, [], ◌∷◌}
use mathlib.Core.Logic.{◌⊎◌, inl, inr, ◌↔◌}
use Prim.Native.Nat.{ℕ, ◌≤◌, ◌<◌}
use native.Mathlib.Omega.{arith}
use lib.Dec.{ltb, eqb}
use borrow.Author.Tests.{ltb-true, ltb-false, eqb-true, eqb-false, lt-ltb, le-ltb, eq-eqb, ne_eqb}
use Rattle.manager.specs.Record.{slot_of, id_of}
use Rattle.manager.specs.Queue.{by_priority, urgent, goes_before}
use Rattle.manager.specs.declared.Order.{Order}
use Rattle.manager.proofs.Laws.Appended.{by_case}
use Rattle.manager.specs.Lists.{In}
use Rattle.trace.specs.Receipts.{Receipts, RegionEntry, Wait}
use Rattle.trace.specs.Queue.{insert_all, rank, urgent_than, waits_in, queue_of, order_in, orders, stands_before, in_line}
use Rattle.trace.specs.Claims.{waiter_of}
use Rattle.trace.proofs.Loans.Tests.{by_eqb}
use Rattle.trace.proofs.Slots.{now_same}
use Rattle.trace.proofs.Queue.Line.{true_false, keep, Sorted, Strict, in_keep, in_line_lem, line_same, keep_line}

-- PAIRS OF NUMBERS IN ORDER
unfoldable lex : ℕ → ℕ → ℕ → ℕ → Bool
lex a r b s = ltb a b || (eqb a b && ltb r s)

lex_true : (a r b s : ℕ) → lex a r b s ≡ true → (a < b) ⊎ ((a ≡ b) × (r < s))
unfolding lex
lex_true a r b s h =
    by_case (ltb a b) (λ t. (t || (eqb a b && ltb r s)) ≡ true → (ltb a b ≡ t) → (a < b) ⊎ ((a ≡ b) × (r < s)))
    (λ e k l. inl (ltb-true a b e))
    (λ f k l. by_case (eqb a b) (λ t. (t && ltb r s) ≡ true → (a < b) ⊎ ((a ≡ b) × (r < s)))
    (λ e k. inr (eqb-true a b e, ltb-true r s k)) (λ g k. absurd (true_false false k refl)) k)
    h refl

lex_below : (a r b s : ℕ) → a < b → lex a r b s ≡ true
unfolding lex
lex_below a r b s h = rw (lt-ltb a b h)

lex_same : (a r b s : ℕ) → a ≡ b → r < s → lex a r b s ≡ true
unfolding lex
lex_same a r b s h k = rw (le-ltb a b (omega arith), eq-eqb a b h, lt-ltb r s k)

lex_above : (a r b s : ℕ) → b < a → lex a r b s ≡ false
unfolding lex
lex_above a r b s h = rw (le-ltb a b (omega arith), ne_eqb a b (λ e. omega arith))

lex_not : (a r b s : ℕ) → a ≡ b → s ≤ r → lex a r b s ≡ false
unfolding lex
lex_not a r b s h k = rw (le-ltb a b (omega arith), eq-eqb a b h, le-ltb r s k)

lex_false : (a r b s : ℕ) → lex a r b s ≡ false → (b < a) ⊎ ((a ≡ b) × (s ≤ r))
lex_false a r b s h =
    by_case (ltb a b) (λ t. ltb a b ≡ t → (b < a) ⊎ ((a ≡ b) × (s ≤ r)))
    (λ e l. absurd (true_false (lex a r b s) (lex_below a r b s (ltb-true a b e)) h))
    (λ f l. by_case (eqb a b) (λ t. eqb a b ≡ t → (b < a) ⊎ ((a ≡ b) × (s ≤ r)))
    (λ e m. by_case (ltb r s) (λ t. (b < a) ⊎ ((a ≡ b) × (s ≤ r)))
    (λ g. absurd (true_false (lex a r b s) (lex_same a r b s (eqb-true a b e) (ltb-true r s g)) h))
    (λ g. inr (eqb-true a b e, ltb-false r s g)))
    (λ g m. inl (above (ltb-false a b f) (eqb-false a b g))) refl)
    refl
  where
    above : b ≤ a → (a ≡ b → ⊥) → b < a
    above p q = omega arith

lex_asym : (a r b s : ℕ) → lex a r b s ≡ true → lex b s a r ≡ false
lex_asym a r b s h =
    elim (lex_true a r b s h) [ inl k ↦ lex_above b s a r k | inr k ↦ lex_not b s a r (sym k.0) (omega arith) ]

lex_other : (a r b s c u : ℕ) → lex a r c u ≡ true → lex b s c u ≡ false → lex a r b s ≡ true
lex_other a r b s c u h k = go (lex_true a r c u h) (lex_false b s c u k)
  where
    go : (a < c) ⊎ ((a ≡ c) × (r < u)) → (c < b) ⊎ ((b ≡ c) × (u ≤ s)) → lex a r b s ≡ true
    go (inl x) (inl y) = lex_below a r b s (omega arith)
    go (inl x) (inr y) = lex_below a r b s (omega arith)
    go (inr x) (inl y) = lex_below a r b s (omega arith)
    go (inr x) (inr y) = lex_same a r b s (omega arith) (omega arith)

-- a wait is under the id that its slot has now, after so many deletes
abbrev pub Current : (ℕ → ℕ) → Wait → Type 0
Current deletes w = w.id ≡ id_of (slot_of w.id) (deletes (slot_of w.id))

-- ONE WAIT BEFORE ANOTHER
module _ (o : ℕ → Order) where
  abbrev slot : Wait → ℕ
  slot w = slot_of w.id

  abbrev ranked : Wait → ℕ
  ranked w = rank (o w.id) w

  pub stands_strict : Strict (stands_before o)
  unfolding stands_before lex
  stands_strict =
      record {
        asym = λ x y. lex_asym (slot x) (ranked x) (slot y) (ranked y);
        other = λ x y z. lex_other (slot x) (ranked x) (slot y) (ranked y) (slot z) (ranked z);
      }

  -- in one region it goes by that region's order
  stands_within : (id : ℕ) (w x : Wait) → w.id ≡ id → x.id ≡ id → stands_before o w x ≡ urgent_than (o id) w x
  unfolding stands_before
  stands_within id w x e f = rw (e, f, le-ltb (slot_of id) (slot_of id) (omega arith), eq-eqb (slot_of id) (slot_of id) refl)

  -- THE RECORD'S ORDER IS THAT OF THE RECEIPTS: waits of one slot are of one region
  pub stands_is : (deletes : ℕ → ℕ) (w x : Wait) → Current deletes w → Current deletes x → 1 ≤ x.task
      → goes_before (o w.id) (waiter_of w) (waiter_of x) ≡ stands_before o w x
  unfolding goes_before stands_before
  stands_is deletes w x i j k =
      rw (ne_eqb x.task 0 (λ e. omega arith))
      (ap (λ b. ltb (slot w) (slot x) || b)
      (by_eqb (slot w) (slot x) (λ b. (b && urgent (o w.id) w.priority x.priority) ≡ (b && ltb (ranked w) (ranked x)))
      (λ e. urgent_rank (by_priority (o w.id)) ∙ ap (λ (i : ℕ). ltb (ranked w) (rank (o i) x)) (now_same deletes w.id x.id i j e)) (λ e. refl)))
    where
      urgent_rank : (b : Bool) → (b && ltb w.priority x.priority) ≡ ltb (cond b w.priority 0) (cond b x.priority 0)
      urgent_rank false = refl
      urgent_rank true = refl

-- THE WAITS OF ONE REGION
pub waits_keep : (id : ℕ) (ws : List Wait) → waits_in id ws ≡ keep (λ w. eqb w.id id) ws
unfolding waits_in keep
waits_keep id [] = refl
waits_keep id (w ∷ ws) = rw (waits_keep id ws)

pub in_waits : (id : ℕ) (x : Wait) (ws : List Wait) → In x (waits_in id ws) ↔ (In x ws × (x.id ≡ id))
in_waits id x ws =
    let k = in_keep (λ w. eqb w.id id) x ws in (
      λ h. let c = k.0 (rw (waits_keep id ws) at h) in (c.0, eqb-true x.id id c.1),
      λ h. rw (waits_keep id ws) (k.1 (h.0, eq-eqb x.id id h.1)),
    )

-- ALL WAITS IN LINE: each stands there, and nothing else
pub in_all_waits : (t : Receipts) (w : Wait) → In w (in_line t) ↔ In w t.waits
unfolding In
in_all_waits t w =
    let l = in_line_lem (stands_before (orders t)) w [] t.waits in (λ h. elim (l.0 h) [ inl z ↦ absurd z | inr z ↦ z ], λ h. l.1 (inr h))

-- A REGION'S QUEUE IS WHAT THE LINE HAS OF IT
pub queue_of_lem : (id : ℕ) (e : RegionEntry) (t : Receipts) → t.regions id ≡ Some e → queue_of id e t ≡ waits_in id (in_line t)
unfolding keep Sorted In
queue_of_lem id e t f =
    let o = orders t in
    ap (λ (r : Option RegionEntry). insert_all (urgent_than (order_in r)) [] (waits_in id t.waits)) (sym f)
    ∙ sym (line_same (λ w. w.id ≡ id) (stands_before o) (urgent_than (o id)) (stands_within o id) [] (waits_in id t.waits) (λ x h. absurd h) (λ x h. ((in_waits id x t.waits).0 h).1))
    ∙ ap (insert_all (stands_before o) []) (waits_keep id t.waits)
    ∙ sym (keep_line (stands_before o) (stands_strict o) (λ w. eqb w.id id) [] t.waits tt)
    ∙ sym (waits_keep id (in_line t))

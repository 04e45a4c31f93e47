-- Ids: from an id to its slot and generation and back, and the object that an id names, of either kind: a slot's, which is live and has the
-- id's generation, or none. Assumes nothing.
use Prim.Native.Nat.{ℕ, ◌≤◌, ◌<◌}
use mathlib.Core.Path.{◌≡◌, refl, sym, ap, ◌∙◌, subst}
use mathlib.Core.Bool.{Bool, true, false, not, ◌&&◌}
use mathlib.Core.List.{List}
use mathlib.Core.Logic.{◌⊎◌, inl, inr, ⊎_elim}
use native.Mathlib.Omega.{arith}
use lib.ListN.{length, get_or, set, get_or-eq_default}
use lib.Seq.{get_or-set_same, get_or-set_other}
use lib.Dec.{eqb, leb}
use borrow.Author.Tests.{eqb-true, eqb-false, eq-eqb, ne_eqb, leb-true, leb-false, not-true}
use Rattle.manager.specs.Record.{slots, generations, slot_of, generation_of, id_of, has_id, object_of}
use Rattle.manager.proofs.Laws.Lists.{and_first, and_second}
use Rattle.manager.proofs.Laws.Appended.{by_case}
use Rattle.manager.proofs.Laws.Distinct.{same_or_not}

-- ---- AN ID, ITS SLOT AND ITS GENERATION

module _ (i g : ℕ) (h : i < slots) where
  pub slot_id : slot_of (id_of i g) ≡ i
  unfolding slot_of id_of
  slot_id = omega arith

  pub generation_id : generation_of (id_of i g) ≡ g
  unfolding generation_of id_of
  generation_id = omega arith

  -- an id has at most 21 bits, a spent slot's too
  pub id_small : g ≤ generations → id_of i g < 2097152
  unfolding id_of
  id_small e = omega arith

pub id_back : (id : ℕ) → slot_of id < slots → id_of (slot_of id) (generation_of id) ≡ id
unfolding slot_of generation_of id_of
id_back id h = omega arith

-- id 1 names the first slot, and id 0 names none
pub first_slot_lem : slot_of 1 ≡ 0
unfolding slot_of
first_slot_lem = refl

pub no_slot : slots ≤ slot_of 0
unfolding slot_of
no_slot = omega arith

-- ---- THE OBJECT OF AN ID

module _ {A : Type 0} (name generation : A → ℕ) (none : A) (l : List A) where
  -- what stands in its slot
  abbrev in_slot : ℕ → A
  in_slot id = get_or l (slot_of id) none

  -- it is live, and has the id's generation
  pub record Live (id : ℕ) : Type 0 where
    pub is : object_of name generation none l id ≡ get_or l (slot_of id) none
    pub named : ¬ (name (get_or l (slot_of id) none) ≡ 0)
    pub same : generation (get_or l (slot_of id) none) ≡ generation_of id

  module _ (id : ℕ) where
    pub object_there : has_id (name (in_slot id)) (generation (in_slot id)) id ≡ true → object_of name generation none l id ≡ get_or l (slot_of id) none
    unfolding object_of
    object_there e = rw e

    pub object_none : has_id (name (in_slot id)) (generation (in_slot id)) id ≡ false → object_of name generation none l id ≡ none
    unfolding object_of
    object_none e = rw e

    pub object_live : ¬ (name (in_slot id) ≡ 0) → generation (in_slot id) ≡ generation_of id → object_of name generation none l id ≡ get_or l (slot_of id) none
    object_live n e = object_there (rw (ne_eqb (name (in_slot id)) 0 n, eq-eqb (generation (in_slot id)) (generation_of id) e))

    -- an object, or none
    pub object_cases : Live id ⊎ (object_of name generation none l id ≡ none)
    object_cases =
        let x = in_slot id in
        by_case (has_id (name x) (generation x) id) (λ b. Live id ⊎ (object_of name generation none l id ≡ none))
        (λ e. inl (record {
          is = object_there e;
          named = eqb-false (name x) 0 (not-true (eqb (name x) 0) (and_first (not (eqb (name x) 0)) _ e));
          same = eqb-true (generation x) (generation_of id) (and_second (not (eqb (name x) 0)) _ e);
        }))
        (λ e. inr (object_none e))

  module _ (z : name none ≡ 0) (id : ℕ) where
    -- what has a name is live, and its slot is one of those that there are
    pub live_object : ¬ (name (object_of name generation none l id) ≡ 0) → Live id
    live_object n = ⊎_elim (λ (v : Live id). v) (λ (e : object_of name generation none l id ≡ none). absurd (n (ap name e ∙ z))) (object_cases id)

    pub live_within : Live id → slot_of id < length l
    live_within v =
        by_case (leb (length l) (slot_of id)) (λ b. slot_of id < length l)
        (λ e. absurd (v.named (ap name (get_or-eq_default l none {n = slot_of id} (leb-true _ _ e)) ∙ z)))
        (λ e. leb-false _ _ e)

    -- an id past the slots names none
    pub object_beyond : length l ≤ slot_of id → object_of name generation none l id ≡ none
    object_beyond h = ⊎_elim (λ (v : Live id). absurd (let w = live_within v in omega arith)) (λ (e : object_of name generation none l id ≡ none). e) (object_cases id)

  -- the id of a slot's object, by its own generation
  module _ (i : ℕ) (h : i < slots) where
    pub slot_object : ¬ (name (get_or l i none) ≡ 0) → object_of name generation none l (id_of i (generation (get_or l i none))) ≡ get_or l i none
    slot_object n =
        let g = generation (get_or l i none) in
        let e = slot_id i g h in
        object_live (id_of i g) (rw e n) (rw e (sym (generation_id i g h))) ∙ rw e

    pub slot_empty : name (get_or l i none) ≡ 0 → (g : ℕ) → object_of name generation none l (id_of i g) ≡ none
    slot_empty n g =
        let e = slot_id i g h in
        object_none (id_of i g) (rw (e, eq-eqb (name (get_or l i none)) 0 n))

-- ---- AN OBJECT PUT INTO A SLOT, where the one before it and itself have no name or are of a generation

abbrev pub OfGeneration : {A : Type 0} → (A → ℕ) → (A → ℕ) → ℕ → A → Type 0
OfGeneration name generation g x = (name x ≡ 0) ⊎ (generation x ≡ g)

module _ {A : Type 0} (name generation : A → ℕ) (none : A) (l : List A) (i : ℕ) (h : i < slots) (u : i < length l) (x : A) (g : ℕ) where
  there : get_or (set l i x) (slot_of (id_of i g)) none ≡ x
  there = rw (slot_id i g h) (get_or-set_same l i x none u)

  -- its id of that generation names it, if it has a name
  pub put_there : ¬ (name x ≡ 0) → generation x ≡ g → object_of name generation none (set l i x) (id_of i g) ≡ x
  put_there n e =
      object_live name generation none (set l i x) (id_of i g) (rw there n) (rw there (e ∙ sym (generation_id i g h))) ∙ there

  pub put_empty : name x ≡ 0 → object_of name generation none (set l i x) (id_of i g) ≡ none
  put_empty n = object_none name generation none (set l i x) (id_of i g) (rw (there, eq-eqb (name x) 0 n))

  -- another id of that slot names nothing of that generation
  other_id : (id : ℕ) → slot_of id ≡ i → ¬ (id ≡ id_of i g) → (y : A) → OfGeneration name generation g y → has_id (name y) (generation y) id ≡ false
  other_id id e n y (inl z) = rw (eq-eqb (name y) 0 z)
  other_id id e n y (inr z) =
      let o : ¬ (generation y ≡ generation_of id) = λ (q : generation y ≡ generation_of id).
      n (sym (id_back id (subst (λ (j : ℕ). j < slots) (sym e) h)) ∙ ap (λ (j : ℕ). id_of j (generation_of id)) e ∙ ap (id_of i) (sym q ∙ z)) in
      rw (ne_eqb (generation y) (generation_of id) o) (and_none (not (eqb (name y) 0)))
    where
      and_none : (b : Bool) → (b && false) ≡ false
      and_none true = refl
      and_none false = refl

  -- an id of another slot names what it did
  elsewhere : (id : ℕ) → ¬ (slot_of id ≡ i) → object_of name generation none (set l i x) id ≡ object_of name generation none l id
  unfolding object_of
  elsewhere id e = rw (get_or-set_other l i (slot_of id) x none e)

  -- and so does every other id
  pub put_others : OfGeneration name generation g (get_or l i none) → OfGeneration name generation g x → (id : ℕ) → ¬ (id ≡ id_of i g)
      → object_of name generation none (set l i x) id ≡ object_of name generation none l id
  put_others o w id n =
      ⊎_elim
      (λ (e : slot_of id ≡ i).
      let old : get_or l (slot_of id) none ≡ get_or l i none = rw e in
      let new : get_or (set l i x) (slot_of id) none ≡ x = rw e (get_or-set_same l i x none u) in
      object_none name generation none (set l i x) id (rw new (other_id id e n x w))
      ∙ sym (object_none name generation none l id (rw old (other_id id e n (get_or l i none) o))))
      (λ (e : slot_of id ≡ i → ⊥). elsewhere id e)
      (same_or_not (slot_of id) i)

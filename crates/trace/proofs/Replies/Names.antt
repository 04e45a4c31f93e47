-- What ident and create answer to a name, over the receipts alone: of a kind by its entries, of which no two have one name, each under the
-- id that its slot has now. Assumes nothing.
use Rattle.std.specs.Prelude.{Option, None, Some}
use mathlib.Core.Path.{◌≡◌, refl, sym, ap, ◌∙◌, subst}
use mathlib.Core.Bool.{Bool, true, false, cond, not, true≢false}
use mathlib.Core.List.{List, [], ◌∷◌}
use mathlib.Core.Logic.{◌⊎◌, inl, inr, ⊎_elim, ◌↔◌}
use Prim.Native.Nat.{ℕ, zero, suc, ◌+◌, ◌≤◌, ◌<◌}
use native.Mathlib.Omega.{arith}
use lib.Dec.{eqb, leb, ltb}
use borrow.Author.Tests.{eq-eqb, ne_eqb, eqb-true, ltb-true, lt-ltb, lt-leb, leb-false}
use Rattle.manager.proofs.Laws.Appended.{by_case}
use Rattle.manager.proofs.Laws.Distinct.{same_or_not}
use Rattle.manager.proofs.Laws.Lists.{and_first, and_second}
use Rattle.manager.specs.Lists.{every}
use Rattle.manager.specs.Record.{slots, slot_of}
use Rattle.manager.specs.Result.{Result, Check, check}
use Rattle.manager.specs.Status.{number_of}
use Rattle.manager.specs.declared.Status.{Status}
use Rattle.manager.specs.declared.Status.TheVariants.{Successful, InvalidName}
use Rattle.trace.specs.Receipts.{Reply, reply_of}
use Rattle.trace.specs.Replies.{no, yes, decided, has, first_slot, id_now, slot_with}
use Rattle.trace.specs.Claims.{InUse, NameClaims}
use Rattle.trace.proofs.Ids.{first_passes}
use Rattle.trace.proofs.Names.{EachNamed}

-- the first slot found is no later than any that passes
first_least : (p : ℕ → Bool) (n k i : ℕ) → k ≤ i → i < k + n → p i ≡ true → first_slot p n k ≤ i
unfolding first_slot
first_least p zero k i l h e = absurd (omega arith)
first_least p (suc n) k i l h e =
    by_case (p k) (λ b. p k ≡ b → cond b k (first_slot p n (suc k)) ≤ i) (λ f g. l)
    (λ f g.
    ⊎_elim
    (λ (q : k ≡ i). absurd (true≢false (sym e ∙ ap p (sym q) ∙ g)))
    (λ (q : k ≡ i → ⊥). first_least p n (suc k) i (omega arith) (omega arith) e)
    (same_or_not k i))
    refl

-- an object that is there and passes a test
has_some : {E : Type 0} (p : E → Bool) (o : Option E) → has p o ≡ true → (e : E) × (o ≡ Some e) × (p e ≡ true)
has_some p None h = absurd (let z : ◌≡◌ {A = ℕ} 0 1 = cc in omega arith)
has_some p (Some e) h = (e, refl, h)

-- 3 is not answered by checks that have another status, nor by what is behind them
abbrev spares : Check → Bool
spares c = not (eqb (number_of c.status) 3)

spared : (cs : List Check) (r : Reply) → every spares cs ≡ true → eqb (number_of r.status) 3 ≡ false → ¬ ((decided cs r).status ≡ InvalidName)
unfolding every decided
spared [] r h n e = true≢false (sym (ap (λ (s : Status). eqb (number_of s) 3) e) ∙ n)
spared (c ∷ cs) r h n e = go c.fails e (spared cs r (and_second (spares c) (every spares cs) h) n)
  where
    go : (b : Bool) → (cond b (no c.status) (decided cs r)).status ≡ InvalidName → ¬ ((decided cs r).status ≡ InvalidName) → ⊥
    go true f k = true≢false (sym (and_first (spares c) (every spares cs) h) ∙ ap (λ (s : Status). not (eqb (number_of s) 3)) f)
    go false f k = k f

module _ {E : Type 0} {entries : ℕ → Option E} {deletes : ℕ → ℕ} {name : E → ℕ} (v : EachNamed entries deletes name) where
  -- the slot of a name
  abbrev slot : ℕ → ℕ
  slot n = slot_with entries deletes (λ e. eqb (name e) n)

  -- one that is found is of an object with the name
  in_slot_lem : (n : ℕ) → slot n < slots → (e : E) × (entries (id_now deletes (slot n)) ≡ Some e) × (name e ≡ n)
  in_slot_lem n h =
      let r = has_some (λ e. eqb (name e) n) (entries (id_now deletes (slot n))) (first_passes (λ i. has (λ e. eqb (name e) n) (entries (id_now deletes i))) slots 0 (omega arith)) in
      (r.0, r.1, eqb-true (name r.0) n r.2)

  in_use : (n : ℕ) → slot n < slots → InUse entries name n
  in_use n h = let r = in_slot_lem n h in (id_now deletes (slot n), r.0, r.1, r.2)

  -- and each object with the name is in it
  module _ (id : ℕ) (e : E) (q : entries id ≡ Some e) where
    found : slot (name e) < slots
    found =
        let u = v.now id e q in
        let p : has (λ f. eqb (name f) (name e)) (entries (id_now deletes (slot_of id))) ≡ true = rw (← u.is, q) (eq-eqb (name e) (name e) refl) in
        let l = first_least (λ i. has (λ f. eqb (name f) (name e)) (entries (id_now deletes i))) slots 0 (slot_of id) (omega arith) (omega (arith, u.within)) p in
        omega (arith, u.within)

    found_id : id_now deletes (slot (name e)) ≡ id
    found_id = let r = in_slot_lem (name e) found in v.differ _ id r.0 e r.1 q r.2

  -- ---- ident
  abbrev identified : ℕ → Reply
  identified n = decided (check (eqb n 0) InvalidName ∷ check (leb slots (slot n)) InvalidName ∷ []) (yes (id_now deletes (slot n)))

  -- THE ID OF THE ONLY ONE
  found_by : (id : ℕ) (e : E) → entries id ≡ Some e → ((identified (name e)).status ≡ Successful) × ((identified (name e)).value ≡ id)
  unfolding decided
  found_by id e q = rw (ne_eqb (name e) 0 (v.named id e q), lt-leb slots (slot (name e)) (found id e q)) (refl, found_id id e q)

  -- 3 EXACTLY WHERE THERE IS NONE
  unknown_by : (n : ℕ) → ((identified n).status ≡ InvalidName) ↔ (¬ InUse entries name n)
  unfolding decided
  unknown_by n = (
    λ f u.
        let g = subst (λ (k : ℕ). (identified k).status ≡ Successful) u.3 (found_by u.0 u.1 u.2).0 in
        let z : ◌≡◌ {A = ℕ} 0 3 = ap number_of (sym g ∙ f) in
        omega arith,
    λ f.
        by_case (eqb n 0) (λ b. (cond b (no InvalidName) (decided (check (leb slots (slot n)) InvalidName ∷ []) (yes (id_now deletes (slot n))))).status ≡ InvalidName) (λ g. refl)
        (λ g. by_case (leb slots (slot n)) (λ b. (cond b (no InvalidName) (yes (id_now deletes (slot n)))).status ≡ InvalidName) (λ h. refl)
        (λ h. absurd (f (in_use n (leb-false slots (slot n) h))))),
  )

  pub name_claims : (ident : ℕ → Result) → ((n : ℕ) → reply_of (ident n) ≡ identified n) → NameClaims entries name ident
  name_claims ident by =
      record {
        differ = v.differ;
        found = λ id e q.
            let r = found_by id e q in
            (ap (λ (r : Reply). r.status) (by (name e)) ∙ r.0, ap (λ (r : Reply). r.value) (by (name e)) ∙ r.1);
        unknown = λ n. rw (ap (λ (r : Reply). r.status) (by n)) (unknown_by n);
      }

  -- ---- create, with whatever checks behind those of its name
  abbrev created : ℕ → List Check → Reply → Reply
  created n cs r = decided (check (eqb n 0) InvalidName ∷ check (ltb (slot n) slots) InvalidName ∷ cs) r

  -- 3 EXACTLY FOR NAME 0 AND A NAME IN USE
  taken_by : (n : ℕ) (cs : List Check) (r : Reply) → every spares cs ≡ true → eqb (number_of r.status) 3 ≡ false
      → ((created n cs r).status ≡ InvalidName) ↔ ((n ≡ 0) ⊎ InUse entries name n)
  unfolding decided
  taken_by n cs r s o = (
    λ f.
        by_case (eqb n 0) (λ b. eqb n 0 ≡ b → (n ≡ 0) ⊎ InUse entries name n) (λ g e. inl (eqb-true n 0 e))
        (λ g e. by_case (ltb (slot n) slots) (λ b. ltb (slot n) slots ≡ b → (n ≡ 0) ⊎ InUse entries name n) (λ h k. inr (in_use n (ltb-true (slot n) slots k)))
        (λ h k. absurd (spared cs r s o (rw (e, k) at f))) refl) refl,
    λ f.
        ⊎_elim (λ (z : n ≡ 0). rw (eq-eqb n 0 z))
        (λ (u : InUse entries name n).
        let k = subst (λ (k : ℕ). slot k < slots) u.3 (found u.0 u.1 u.2) in
        rw (lt-ltb (slot n) slots k) (either (eqb n 0)))
        f,
  )
    where
      either : (b : Bool) → (cond b (no InvalidName) (no InvalidName)).status ≡ InvalidName
      either true = refl
      either false = refl

  pub taken_claim : (n : ℕ) (cs : List Check) (r : Reply) → every spares cs ≡ true → eqb (number_of r.status) 3 ≡ false → (a : Result) → reply_of a ≡ created n cs r
      → (a.status ≡ InvalidName) ↔ ((n ≡ 0) ⊎ InUse entries name n)
  taken_claim n cs r s o a e = rw (ap (λ (r : Reply). r.status) e) (taken_by n cs r s o)

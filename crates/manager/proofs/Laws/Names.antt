-- The names of a kind's slots, over what names a slot: of sound records the live one with a name is the only one; and an object put into a
-- slot leaves the names different where no other slot has its name. Assumes nothing.
use mathlib.Core.Path.{◌≡◌, sym, ◌∙◌}
use mathlib.Core.Bool.{true, or-true, or-false}
use mathlib.Core.List.{List}
use mathlib.Core.Logic.{⊎_elim}
use Prim.Native.Nat.{ℕ, ◌≤◌, ◌<◌}
use native.Mathlib.Omega.{arith}
use lib.ListN.{length, get_or, set, length-set}
use lib.Seq.{get_or-set_same, get_or-set_other}
use lib.Dec.{eqb}
use borrow.Author.Tests.{eq-eqb, ne_eqb, eqb-true}
use Rattle.manager.specs.Lists.{index_of, pairwise}
use Rattle.manager.specs.Sound.{other_name, sound_names}
use Rattle.manager.specs.declared.Manager.{Manager}
use Rattle.manager.proofs.Laws.Lists.{and_first, and_second, index_least}
use Rattle.manager.proofs.Laws.Areas.{same_or_apart, pairwise_at, at_pairwise}
use Rattle.manager.proofs.Laws.Distinct.{same_or_not}

module _ {A : Type 0} (name : A → ℕ) where
  -- two slots of one name are empty
  one_name : (x y : A) → other_name name x y ≡ true → name x ≡ name y → name x ≡ 0
  one_name x y e f = eqb-true (name x) 0 (sym (or-false (eqb (name x) 0)) ∙ (rw (eq-eqb (name x) (name y) f) at e))

  other_name_lem : (x y : A) → (name x ≡ name y → name x ≡ 0) → other_name name x y ≡ true
  other_name_lem x y h =
      ⊎_elim
      (λ (e : name x ≡ name y). rw (eq-eqb (name x) 0 (h e)))
      (λ (n : name x ≡ name y → ⊥). rw (ne_eqb (name x) (name y) n) (or-true (eqb (name x) 0)))
      (same_or_not (name x) (name y))

  module _ (z : A) (l : List A) where
    -- BY PLACES: a name that two slots have is no name
    pub names_at : pairwise (other_name name) l ≡ true → (i j : ℕ) → i < j → j < length l → name (get_or l i z) ≡ name (get_or l j z) → name (get_or l i z) ≡ 0
    names_at e i j u v = one_name _ _ (pairwise_at z (other_name name) l i j e u v)

    pub at_names : ((i j : ℕ) → i < j → j < length l → name (get_or l i z) ≡ name (get_or l j z) → name (get_or l i z) ≡ 0) → pairwise (other_name name) l ≡ true
    at_names h = at_pairwise z (other_name name) l (λ i j u v. other_name_lem _ _ (h i j u v))

    -- THE ONLY ONE
    pub only_one : pairwise (other_name name) l ≡ true → (i j : ℕ) → i < length l → j < length l → name (get_or l i z) ≡ name (get_or l j z) → ¬ (name (get_or l i z) ≡ 0) → i ≡ j
    only_one e i j u v f n =
        ⊎_elim (λ (q : i ≡ j). q)
        (λ o. absurd (⊎_elim (λ (h : i < j). n (names_at e i j h v f)) (λ (h : j < i). n (f ∙ names_at e j i h u (sym f))) o))
        (same_or_apart i j)

    -- no slot has a name that is not found
    pub not_named : (n : ℕ) → length l ≤ index_of (λ x. eqb (name x) n) l → (i : ℕ) → i < length l → ¬ (name (get_or l i z) ≡ n)
    not_named n h i u e = omega (arith, index_least z (λ x. eqb (name x) n) l i u (eq-eqb (name (get_or l i z)) n e))

    -- AN OBJECT PUT INTO A SLOT, where no other slot has its name, if it has one
    pub names_put : (i : ℕ) (x : A) → i < length l → pairwise (other_name name) l ≡ true
        → ((j : ℕ) → j < length l → ¬ (j ≡ i) → name (get_or l j z) ≡ name x → name x ≡ 0)
        → pairwise (other_name name) (set l i x) ≡ true
    names_put i x h e c = at_pairwise z (other_name name) (set l i x) (λ j k u w. other_name_lem _ _ (two j k u (omega (arith, length-set l i x))))
      where
        two : (j k : ℕ) → j < k → k < length l → name (get_or (set l i x) j z) ≡ name (get_or (set l i x) k z) → name (get_or (set l i x) j z) ≡ 0
        two j k u w =
            ⊎_elim
            (λ (p : j ≡ i). rw (p, get_or-set_same l i x z h, get_or-set_other l i k x z (λ q. omega arith)) (λ f. c k w (λ q. omega arith) (sym f)))
            (λ (p : j ≡ i → ⊥).
            rw (get_or-set_other l i j x z p)
            (⊎_elim
            (λ (q : k ≡ i). rw (q, get_or-set_same l i x z h) (λ f. f ∙ c j (omega arith) p f))
            (λ (q : k ≡ i → ⊥). rw (get_or-set_other l i k x z q) (names_at e j k u w))
            (same_or_not k i)))
            (same_or_not j i)

-- THE CLAUSE OF SOUND RECORDS, kind by kind
module _ (d : Manager) where
  pub region_names : sound_names d ≡ true → pairwise (other_name (λ r. r.name)) d.regions ≡ true
  unfolding sound_names
  region_names e = and_first (pairwise (other_name (λ r. r.name)) d.regions) (pairwise (other_name (λ p. p.name)) d.partitions) e

  pub partition_names : sound_names d ≡ true → pairwise (other_name (λ p. p.name)) d.partitions ≡ true
  unfolding sound_names
  partition_names e = and_second (pairwise (other_name (λ r. r.name)) d.regions) (pairwise (other_name (λ p. p.name)) d.partitions) e

  pub names_made : pairwise (other_name (λ r. r.name)) d.regions ≡ true → pairwise (other_name (λ p. p.name)) d.partitions ≡ true → sound_names d ≡ true
  unfolding sound_names
  names_made e f = rw (e, f)

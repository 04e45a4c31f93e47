-- A sound chain, buffer by buffer: each is a buffer, its links agree both ways, and the last is the rear. Assumes nothing.
use Prim.Native.Nat.{ℕ, zero, suc}
use mathlib.Core.Path.{◌≡◌, refl, ap, sym}
use mathlib.Core.Bool.{true}
use mathlib.Core.List.{List, []}
use mathlib.Core.Logic.{⊎_elim}
use lib.ListN.{length}
use lib.Dec.{eqb}
use borrow.Author.Tests.{eqb-true, eq-eqb}
use Rattle.manager.proofs.Laws.Lists.{and_first, and_second}
use Rattle.manager.specs.Partition.{is_buffer, next_of, before_of, follow, linked}
use Rattle.manager.proofs.Laws.Distinct.{On, on_nil, on_head, on_tail, on_cases}
use Rattle.manager.specs.declared.Partition.{Partition}

module _ (m : List ℕ) (p : Partition) where
  pub linked_buffer : (n before a : ℕ) → linked (suc n) m p before a ≡ true → is_buffer p a ≡ true
  unfolding linked
  linked_buffer n before a e = and_first (is_buffer p a) _ e

  pub linked_before : (n before a : ℕ) → linked (suc n) m p before a ≡ true → before_of m a ≡ before
  unfolding linked
  linked_before n before a e = eqb-true _ _ (and_first (eqb (before_of m a) before) _ (and_second (is_buffer p a) _ e))

  pub linked_rest : (n before a : ℕ) → linked (suc n) m p before a ≡ true → linked n m p a (next_of m a) ≡ true
  unfolding linked
  linked_rest n before a e = and_second (eqb (before_of m a) before) _ (and_second (is_buffer p a) _ e)

  pub linked_last : (before a : ℕ) → linked 0 m p before a ≡ true → a ≡ 0
  unfolding linked
  linked_last before a e = eqb-true _ _ (and_first (eqb a 0) _ e)

  pub linked_rear : (before a : ℕ) → linked 0 m p before a ≡ true → before ≡ p.rear
  unfolding linked
  linked_rear before a e = eqb-true _ _ (and_second (eqb a 0) _ e)

  pub linked_more : (n before a : ℕ) → is_buffer p a ≡ true → before_of m a ≡ before → linked n m p a (next_of m a) ≡ true → linked (suc n) m p before a ≡ true
  unfolding linked
  linked_more n before a e f g = rw (e, eq-eqb _ _ f, g)

  pub linked_end : (before a : ℕ) → a ≡ 0 → before ≡ p.rear → linked 0 m p before a ≡ true
  unfolding linked
  linked_end before a e f = rw (eq-eqb _ _ e, eq-eqb _ _ f)

  -- every address on it is a buffer's
  pub linked_on : (n before a x : ℕ) → linked n m p before a ≡ true → On x (follow n m a) → is_buffer p x ≡ true
  unfolding follow
  linked_on zero before a x e q = absurd (on_nil x q)
  linked_on (suc n) before a x e q =
      ⊎_elim
      (λ (f : x ≡ a). rw f (linked_buffer n before a e))
      (λ f. linked_on n a (next_of m a) x (linked_rest n before a e) f)
      (on_cases x a (follow n m (next_of m a)) q)

  -- the rear is on it, and is the last
  pub rear_on : (n before a : ℕ) → linked (suc n) m p before a ≡ true → On p.rear (follow (suc n) m a)
  unfolding follow
  rear_on zero before a e = on_head p.rear a [] (sym (linked_rear a (next_of m a) (linked_rest zero before a e)))
  rear_on (suc n) before a e = on_tail p.rear a (follow (suc n) m (next_of m a)) (rear_on n a (next_of m a) (linked_rest (suc n) before a e))

pub follow_length : (n : ℕ) (m : List ℕ) (a : ℕ) → length (follow n m a) ≡ n
unfolding follow
follow_length zero m a = refl
follow_length (suc n) m a = ap suc (follow_length n m (next_of m a))

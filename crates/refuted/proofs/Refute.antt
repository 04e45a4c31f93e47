-- How a wrong manager is refuted: by one list of calls over a memory of 64 words that the checker computes. Demand 3 says that every call
-- is answered as the receipts say; so along any list of calls the answers are those that the receipts give, and a manager is refuted by a
-- list along which one isn't (`differs`). Demands 1 and 2 are refuted by one call over one memory and record. Assumes nothing.
use mathlib.Core.Path.{◌≡◌, refl, sym, ap, ◌∙◌}
use mathlib.Core.Bool.{Bool, true, false, ◌&&◌, false≢true}
use mathlib.Core.List.{List, [], ◌∷◌, ◌++◌}
use Prim.Native.Nat.{ℕ}
use native.Mathlib.Omega.{arith}
use lib.ListN.{length, get_or, drop, replicate}
use lib.Dec.{eqb}
use borrow.Author.Tests.{eq-eqb, eqb-false}
use Rattle.manager.specs.Status.{number_of}
use Rattle.manager.specs.Result.{Result, tasks_told, replied}
use Rattle.manager.specs.Lists.{any, Distinct}
use Rattle.manager.proofs.Laws.Distinct.{on_nil, on_off, on_in}
use Rattle.manager.specs.Sound.{sound}
use Rattle.manager.specs.Examples.{same, told}
use Rattle.manager.specs.Perform.{Implementation, perform}
use Rattle.manager.specs.declared.Manager.{Manager}
use Rattle.manager.specs.declared.Information.{Information}
use Rattle.manager.specs.declared.Call.{Call}
use Rattle.trace.specs.Receipts.{Reply, reply_of}
use Rattle.trace.specs.Replies.{by_receipts, write_by_receipts, read_by_receipts}
use Rattle.trace.specs.Trace.{Ask, call, read, write, State, start, after, Runs, end, ask}
use Rattle.trace.specs.Claims.{Claims, Demand3}
use Rattle.effects.specs.Effects.{answers_of, refusing, refused_value, Bookkeeping, Whole, Demand1}

-- an answer as numbers: status, value, the six values of an information, and the notices
abbrev informed : Information → List ℕ
informed i = i.free_count ∷ i.free_largest ∷ i.free_total ∷ i.held_count ∷ i.held_largest ∷ i.held_total ∷ []

abbrev numbers : Reply → List ℕ
numbers r = number_of r.status ∷ r.value ∷ (informed r.information ++ told r.notices)

-- what a manager answers, and what the receipts say that it answers
abbrev answer : Implementation → State → Ask → List ℕ
answer i s (call c) = numbers (reply_of (i.call s.memory s.manager c))
answer i s (read id address) = i.read s.memory s.manager id address
answer i s (write id address first words) = numbers (reply_of (i.write s.memory s.manager id address first words))

abbrev expected : State → Ask → List ℕ
expected s (call c) = numbers (by_receipts (length s.memory) s.receipts c)
expected s (read id address) = read_by_receipts s.memory s.receipts id address
expected s (write id address first words) = numbers (write_by_receipts s.receipts id address first words)

-- the two agree along a list of calls
abbrev pub agrees : Implementation → List Ask → State → Bool
agrees i [] s = true
agrees i (a ∷ l) s = same (answer i s a) (expected s a) && agrees i l (after i a s)

-- a memory of 64 words
abbrev pub words : List ℕ
words = replicate 64 0

-- what a manager has after a list of calls
abbrev pub after_all : Implementation → List Ask → State → State
after_all i [] s = s
after_all i (a ∷ l) s = after_all i l (after i a s)

pub ran : (i : Implementation) (l : List Ask) (s : State) → Runs i s (after_all i l s)
ran i [] s = end
ran i (a ∷ l) s = ask a (ran i l (after i a s))

same_refl : (l : List ℕ) → same l l ≡ true
same_refl [] = refl
same_refl (x ∷ l) = rw (eq-eqb x x refl) (same_refl l)

module _ (i : Implementation) where
  as_said : (s : State) → Claims i s → (a : Ask) → answer i s a ≡ expected s a
  as_said s h (call c) = ap numbers (h.replies c)
  as_said s h (read id address) = h.reads id address
  as_said s h (write id address first words) = ap numbers (h.replies_write id address first words)

  along : (l : List Ask) (s : State) → ((t : State) → Runs i s t → Claims i t) → agrees i l s ≡ true
  along [] s h = refl
  along (a ∷ l) s h =
      rw (as_said s (h s end) a, same_refl (expected s a)) (along l (after i a s) (λ t r. h t (ask a r)))

  -- A MANAGER OF DEMAND 3 ANSWERS AS THE RECEIPTS SAY along every list; so one that doesn't is none
  pub differs : (l : List Ask) → agrees i l (start words) ≡ false → ¬ Demand3 i
  differs l e h = false≢true (sym e ∙ along l (start words) (h words (omega arith) (omega arith)))

  -- or it fails by what demand 3 claims after a list
  pub claimed : Demand3 i → (l : List Ask) → Claims i (after_all i l (start words))
  claimed h l = h words (omega arith) (omega arith) _ (ran i l (start words))

-- DEMAND 1 IS REFUTED BY ONE CALL, over one memory and record: a word that changed and isn't its own; a refusal that differs from what a
-- refusal is, by a number read off it; a status that isn't the directive's; records that are not sound, and are not called so
module _ (i : Implementation) (m : List ℕ) (d : Manager) (c : Call) where
  pub writes_other : (j : ℕ) → Whole d → ¬ Bookkeeping m d (i.call m d c) c j → eqb (get_or (i.call m d c).memory j 0) (get_or m j 0) ≡ false → ¬ Demand1 i
  writes_other j w n e h = eqb-false _ _ e (((h.call m d c).only w).same j n)

  pub refuses_otherwise : (f : Result → ℕ) → refusing (i.call m d c).status ≡ true
      → eqb (f (i.call m d c)) (f (replied m d (i.call m d c).status (refused_value m d c (i.call m d c).status))) ≡ false → ¬ Demand1 i
  refuses_otherwise f r e h = eqb-false _ _ e (ap f ((h.call m d c).refusal r))

  pub answers_otherwise : any (eqb (number_of (i.call m d c).status)) (answers_of c) ≡ false → ¬ Demand1 i
  answers_otherwise e h = on_off _ (answers_of c) ((on_in _ (answers_of c)).1 (h.call m d c).numbered) e

  -- two notices to the task that stands first among them
  pub tells_again : Whole d → any (eqb (get_or (tasks_told (i.call m d c).notices) 0 0)) (drop 1 (tasks_told (i.call m d c).notices)) ≡ true → ¬ Demand1 i
  unfolding Distinct
  tells_again w e h = go (tasks_told (i.call m d c).notices) e (h.once m d c w)
    where
      go : (l : List ℕ) → any (eqb (get_or l 0 0)) (drop 1 l) ≡ true → Distinct l → ⊥
      go [] e d = on_nil 0 e
      go (a ∷ l) e d = d.0 ((on_in a l).0 e)

  pub passes_unsound : sound m d ≡ false → eqb (number_of (i.call m d c).status) 25 ≡ false → ¬ Demand1 i
  passes_unsound u e h = eqb-false _ _ e (ap number_of ((h.call m d c).checks.1 u))

-- DEMAND 2: over every memory and record a call is answered as its directive's definition says; the contracts say so of the code. From a fresh
-- start nobody waits beside room, and some slips show only over a sound record where a first waiter fits: there one call refutes them
abbrev pub Demand2 : Implementation → Type 0
Demand2 i = (m : List ℕ) (d : Manager) (c : Call) → i.call m d c ≡ perform m d c

pub performs_otherwise : (i : Implementation) (m : List ℕ) (d : Manager) (c : Call)
    → same (numbers (reply_of (i.call m d c))) (numbers (reply_of (perform m d c))) ≡ false → ¬ Demand2 i
performs_otherwise i m d c e h = false≢true (sym e ∙ rw (h m d c) (same_refl (numbers (reply_of (perform m d c)))))

-- ONE LAW FOR ALL DIRECTIVES: unsound records are answered 25, else one of the checks refuses, else the directive acts. The first two
-- leave the memory and the record as they were, so that of a directive only its action is left to show. Assumes nothing.
use mathlib.Core.Path.{◌≡◌, refl, sym, ◌∙◌, subst}
use mathlib.Core.Bool.{Bool, true, false, not, ◌&&◌, false≢true}
use mathlib.Core.List.{List}
use mathlib.Core.Logic.{◌↔◌}
use Prim.Native.Nat.{ℕ}
use lib.Dec.{eqb}
use borrow.Author.Tests.{eqb-true, eq-eqb, not-true}
use Rattle.manager.specs.Lists.{every, any}
use Rattle.manager.proofs.Laws.Lists.{and_first, and_second}
use Rattle.manager.specs.Status.{number_of}
use Rattle.manager.specs.Result.{Result, Check, replied, refused}
use Rattle.manager.specs.Regions.{answered}
use Rattle.manager.specs.Sound.{sound}
use Rattle.manager.proofs.Laws.Result.{Passed, by_answer}
use Rattle.manager.specs.Words.{Only}
use Rattle.manager.proofs.Laws.Words.{unchanged}
use Rattle.manager.proofs.Laws.Distinct.{On, on_in}
use Rattle.manager.specs.declared.Manager.{Manager}
use Rattle.manager.specs.declared.Call.{Call}
use Rattle.manager.specs.declared.Status.{Status}
use Rattle.manager.specs.declared.Status.TheVariants.{Successful, InternalError, Waiting}
use Rattle.effects.specs.Effects.{answers_of, refused_value, Bookkeeping, Whole, CallEffects}

-- a status by its number
pub other_status : (s t : Status) → eqb (number_of s) (number_of t) ≡ false → ¬ (s ≡ t)
other_status s t n e =
    let f : eqb (number_of t) (number_of t) ≡ false = subst (λ (u : Status). eqb (number_of u) (number_of t) ≡ false) e n in
    false≢true (sym f ∙ eqb_same (number_of t))
  where
    eqb_same : (n : ℕ) → eqb n n ≡ true
    eqb_same n = eq-eqb n n refl

-- of sound records an answer other than 25 is right
pub rightly : (m : List ℕ) (d : Manager) (s : Status) → sound m d ≡ true → ¬ (s ≡ InternalError) → (s ≡ InternalError) ↔ (sound m d ≡ false)
rightly m d s ok n = (λ e. absurd (n e), λ e. absurd (false≢true (sym e ∙ ok)))

module _ (m : List ℕ) (d : Manager) (c : Call) where
  -- a check's status: one of the directive's, neither 0 nor 255 nor 25, and its value is 0
  abbrev pub fits : Status → Bool
  fits s = any (eqb (number_of s)) (answers_of c) && (not (eqb (number_of s) 255) && (not (eqb (number_of s) 25) && eqb (refused_value m d c s) 0))

  unsound : On 25 (answers_of c) → sound m d ≡ false → CallEffects m d c (refused m d InternalError)
  unsound l e =
      record {
        numbered = (on_in _ _).0 l;
        checks = (λ f. e, λ f. refl);
        refusal = λ f. refl;
        waits = λ f. absurd (other_status InternalError Waiting refl f);
        only = λ w. unchanged;
      }

  -- with any status of the directive's and a value that is right
  pub refuses : sound m d ≡ true → (s : Status) (v : ℕ) → On (number_of s) (answers_of c) → eqb (number_of s) 255 ≡ false → eqb (number_of s) 25 ≡ false
      → refused_value m d c s ≡ v → CallEffects m d c (replied m d s v)
  refuses ok s v l a b e =
      record {
        numbered = (on_in _ _).0 l;
        checks = rightly m d s ok (other_status s InternalError b);
        refusal = λ f. rw e;
        waits = λ f. absurd (other_status s Waiting a f);
        only = λ w. unchanged;
      }

  fails : sound m d ≡ true → (s : Status) → fits s ≡ true → CallEffects m d c (refused m d s)
  fails ok s h =
      let r = and_second (any (eqb (number_of s)) (answers_of c)) _ h in
      let u = and_second (not (eqb (number_of s) 255)) _ r in
      refuses ok s 0 (and_first (any (eqb (number_of s)) (answers_of c)) _ h) (not-true _ (and_first (not (eqb (number_of s) 255)) _ r))
      (not-true _ (and_first (not (eqb (number_of s) 25)) _ u)) (eqb-true (refused_value m d c s) 0 (and_second (not (eqb (number_of s) 25)) _ u))

  -- an answer of 0: it writes no other words
  pub acts : sound m d ≡ true → (s : Result) → s.status ≡ Successful → On 0 (answers_of c) → (Whole d → Only (Bookkeeping m d s c) m s.memory)
      → CallEffects m d c s
  acts ok s e l h =
      record {
        numbered = rw e ((on_in 0 (answers_of c)).0 l);
        checks = rightly m d s.status ok (other_status s.status InternalError (rw e));
        refusal = λ f. absurd (false≢true (rw e at f));
        waits = λ f. absurd (other_status s.status Waiting (rw e) f);
        only = h;
      }

  -- EVERY DIRECTIVE: its checks have statuses of its own, and its action is right
  pub effects : (cs : List Check) (act : Result) → On 25 (answers_of c) → every (λ k. fits k.status) cs ≡ true
      → (sound m d ≡ true → Passed cs → CallEffects m d c act) → CallEffects m d c (answered (sound m d) m d cs act)
  effects cs act l h k = by_answer m d cs act (CallEffects m d c) fits h (unsound l) fails k

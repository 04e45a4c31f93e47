-- Reading and writing a held segment. Assumes nothing.
use mathlib.Core.Path.{◌≡◌, refl, sym, ◌∙◌}
use mathlib.Core.Bool.{Bool, true, false, cond, not, ◌&&◌, ◌||◌, false≢true}
use mathlib.Core.List.{List, []}
use mathlib.Core.Logic.{◌↔◌}
use Prim.Native.Nat.{ℕ, ◌+◌, ◌/◌, ◌≤◌}
use native.Mathlib.Omega.{arith}
use lib.ListN.{length, take, drop, length-take}
use lib.Seq.{take_all, take-take}
use lib.Dec.{eqb}
use borrow.Author.Tests.{not-true, ltb-false}
use Rattle.manager.specs.Lists.{every, any}
use Rattle.manager.proofs.Laws.Lists.{and_first, and_second}
use Rattle.manager.specs.Record.{region_of}
use Rattle.manager.specs.Result.{refused}
use Rattle.manager.specs.Status.{number_of}
use Rattle.manager.proofs.Laws.Appended.{by_case}
use Rattle.manager.specs.Region.{dead, held_at}
use Rattle.manager.proofs.Laws.Distinct.{on_in, On}
use Rattle.manager.specs.Sound.{sound}
use Rattle.manager.specs.Access.{words_in, read_segment, write_segment}
use Rattle.manager.specs.declared.Manager.{Manager}
use Rattle.manager.specs.declared.Status.{Status}
use Rattle.manager.specs.declared.Status.TheVariants.{Successful, InternalError}
use Rattle.effects.specs.Effects.{write_answers, WriteEffects, ReadEffects}
use Rattle.manager.proofs.Laws.Result.{Passed, by_answer}
use Rattle.effects.proofs.Answers.{other_status, rightly}
use Rattle.manager.proofs.Laws.Words.{unchanged, stored}

module _ (m : List ℕ) (d : Manager) (id address : ℕ) where
  module _ (first : ℕ) (words : List ℕ) where
    -- a refusal, with one of a write's statuses
    refuses : (s : Status) → On (number_of s) write_answers → eqb (number_of s) 0 ≡ false → (s ≡ InternalError) ↔ (sound m d ≡ false)
        → WriteEffects m d id address first words (refused m d s)
    refuses s l n c =
        record {
          numbered = (on_in _ _).0 l;
          checks = c;
          refusal = λ f. refl;
          keeps = refl;
          only = unchanged;
          inside = λ f. absurd (other_status s Successful n f);
        }

    -- a check's status: one of a write's, neither 0 nor 25
    abbrev fits : Status → Bool
    fits s = any (eqb (number_of s)) write_answers && (not (eqb (number_of s) 0) && not (eqb (number_of s) 25))

    fails : sound m d ≡ true → (s : Status) → fits s ≡ true → WriteEffects m d id address first words (refused m d s)
    fails ok s h =
        let u = and_second (any (eqb (number_of s)) write_answers) _ h in
        refuses s (and_first (any (eqb (number_of s)) write_answers) _ h) (not-true _ (and_first (not (eqb (number_of s) 0)) _ u))
        (rightly m d s ok (other_status s InternalError (not-true _ (and_second (not (eqb (number_of s) 0)) _ u))))

    pub write_effects : WriteEffects m d id address first words (write_segment m d id address first words)
    unfolding write_segment every any Passed
    write_effects =
        by_answer m d _ _ (WriteEffects m d id address first words) fits refl (λ e. refuses InternalError refl refl (λ f. e, λ f. refl)) fails
        (λ ok p.
        record {
          numbered = (on_in _ _).0 refl;
          checks = rightly m d Successful ok (other_status Successful InternalError refl);
          refusal = λ f. absurd (false≢true f);
          keeps = refl;
          only = stored m _ words;
          inside = λ f. ltb-false (words_in m d id address) (first + length words) p.1.1.0;
        })

  -- a read hands back a front part of the memory from the address on
  front_part : (n : ℕ) (l : List ℕ) → take n l ≡ take (length (take n l)) l
  front_part n l =
      let h : length (take n l) ≤ n = omega (arith, length-take n l) in
      sym (take_all (length (take n l)) (take n l) (omega arith)) ∙ take-take (length (take n l)) n l h

  abbrev FrontPart : List ℕ → Type 0
  FrontPart ws = ws ≡ take (length ws) (drop (address / 4) m)

  pub read_effects : ReadEffects m d address (read_segment m d id address)
  unfolding read_segment
  read_effects =
      let r = region_of d id in
      record {
        part =
            by_case (not (sound m d) || (dead r || eqb (held_at m r address) 0))
            (λ b. FrontPart (cond b [] (take (words_in m d id address) (drop (address / 4) m))))
            (λ e. refl)
            (λ e. front_part (words_in m d id address) (drop (address / 4) m));
        checks = λ e. rw e;
      }

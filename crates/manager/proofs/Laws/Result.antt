-- A chain of checks comes to a refusal or to the action: what holds of each holds of the answer (`by_checks`, `by_answer`). And what a
-- call performs, by an answer that names no memory. Assumes nothing.
use Prim.Native.Nat.{ℕ}
use mathlib.Core.Path.{◌≡◌, refl, sym, ◌∙◌}
use mathlib.Core.Bool.{Bool, true, false, not, cond}
use mathlib.Core.List.{List, [], ◌∷◌}
use Rattle.manager.specs.Lists.{every}
use Rattle.manager.proofs.Laws.Lists.{and_first, and_second}
use Rattle.manager.proofs.Laws.Appended.{by_case}
use Rattle.manager.specs.Regions.{answered}
use Rattle.manager.specs.Result.{Result, Performs, Check, checked, answer_of, replied, refused}
use Rattle.manager.specs.declared.Manager.{Manager}
use Rattle.manager.specs.declared.Answer.{Answer}
use Rattle.manager.specs.declared.Status.{Status}
use Rattle.manager.specs.declared.Status.TheVariants.{InternalError}

-- EVERY CHECK PASSES AND THE DIRECTIVE ACTS, OR ONE REFUSES: what holds of the action and of each refusal holds of the answer. `t` is what
-- is known of the statuses of the checks
unfoldable pub Passed : List Check → Type 0
Passed [] = Unit {0}
Passed (c ∷ cs) = (c.fails ≡ false) × Passed cs

pub by_checks : (P : Result → Type 0) (t : Status → Bool) (cs : List Check) (refuse : Status → Result) (act : Result)
    → every (λ c. t c.status) cs ≡ true → ((s : Status) → t s ≡ true → P (refuse s)) → (Passed cs → P act) → P (checked cs refuse act)
unfolding checked Passed every
by_checks P t [] refuse act h f g = g tt
by_checks P t (c ∷ cs) refuse act h f g =
    by_case c.fails (λ b. P (cond b (refuse c.status) (checked cs refuse act)))
    (λ e. f c.status (and_first (t c.status) (every (λ k. t k.status) cs) h))
    (λ e. by_checks P t cs refuse act (and_second (t c.status) (every (λ k. t k.status) cs) h) f (λ p. g (e, p)))

-- in front of them stands the check of the records: unsound ones are answered 25, and of sound ones it passes
module _ {ok : Bool} (m : List ℕ) (d : Manager) (cs : List Check) (act : Result) where
  pub answered_sound : ok ≡ true → answered ok m d cs act ≡ checked cs (refused m d) act
  unfolding checked
  answered_sound e = rw e

  pub by_answer : (P : Result → Type 0) (t : Status → Bool) → every (λ c. t c.status) cs ≡ true
      → (ok ≡ false → P (refused m d InternalError)) → (ok ≡ true → (s : Status) → t s ≡ true → P (refused m d s))
      → (ok ≡ true → Passed cs → P act) → P (answered ok m d cs act)
  unfolding checked
  by_answer P t h f g k =
      by_case ok (λ b. P (cond (not b) (refused m d InternalError) (checked cs (refused m d) act)))
      (λ e. by_checks P t cs (refused m d) act h (g e) (k e)) f

-- what a call performs
module _ (m : List ℕ) (a : Answer) where
  pub performs_by : (s t : Result) → s ≡ t → Performs t m a → Performs s m a
  performs_by s t e p = rw e p

  -- an answer made by `reply`, whose contract names no memory
  pub performs_reply : (m₀ : List ℕ) (d : Manager) (s : Status) (v : ℕ) → m ≡ m₀ → a ≡ answer_of (replied [] d s v) → Performs (replied m₀ d s v) m a
  performs_reply m₀ d s v e f = record { memory = e; answer = f }

  pub performs_replied : (t : Result) (d : Manager) (s : Status) (v : ℕ) → a ≡ answer_of (replied [] d s v) → t ≡ replied m d s v → Performs t m a
  performs_replied t d s v f e = performs_by t (replied m d s v) e (performs_reply m d s v refl f)

-- the outcome of a test that a function made, from what it answered
pub outcome : (b t o : Bool) → b ≡ t → b ≡ o → t ≡ o
outcome b t o p q = sym p ∙ q

-- What a directive leaves: the memory, the answer and the manager record, as the contracts state them. Assumes nothing.
use Rattle.std.specs.Prelude.{ℕ, ◌-◌, ◌≡◌, Bool, cond, List, [], ◌∷◌, ◌++◌, length, replicate}
use Rattle.manager.specs.declared.Manager.{Manager}
use Rattle.manager.specs.declared.Notice.{Notice}
use Rattle.manager.specs.declared.Information.{Information}
use Rattle.manager.specs.declared.Answer.{Answer}
use Rattle.manager.specs.declared.Status.{Status}
use Rattle.manager.specs.declared.Status.TheVariants.{Successful}
use Rattle.manager.specs.Record.{tasks, no_notice, no_information}

pub record Result : Type 0 where
  pub memory : List ℕ
  pub status : Status
  pub value : ℕ
  pub information : Information
  pub notices : List Notice
  pub manager : Manager

-- Unused places of the notices are zero
abbrev pub pad : {A : Type 0} → ℕ → A → List A → List A
pad n z l = l ++ replicate (n - length l) z

-- the tasks that notices go to, in their order
unfoldable pub tasks_told : List Notice → List ℕ
tasks_told [] = []
tasks_told (n ∷ ns) = n.task ∷ tasks_told ns

abbrev pub answer_of : Result → Answer
answer_of s =
    record {
      status = s.status;
      value = s.value;
      information = s.information;
      notices = pad tasks no_notice s.notices;
      manager = s.manager;
    }

-- WHAT EACH CONTRACT SAYS: the answer, the manager record in it and every memory word are those of the definition
pub record Performs (s : Result) (m : List ℕ) (a : Answer) : Type 0 where
  pub memory : m ≡ s.memory
  pub answer : a ≡ answer_of s

-- an answer without information and notices
abbrev pub replied : List ℕ → Manager → Status → ℕ → Result
replied m d s v = record { memory = m; status = s; value = v; information = no_information; notices = []; manager = d }

-- A refusal has value 0, no notices, and memory and record unchanged
abbrev pub refused : List ℕ → Manager → Status → Result
refused m d s = replied m d s 0

abbrev pub done : List ℕ → Manager → ℕ → Result
done m d v = replied m d Successful v

-- The order of checks: a list of tests, each with its answer, of which the first that holds answers; else the action
pub record Check : Type 0 where
  pub fails : Bool
  pub status : Status

abbrev pub check : Bool → Status → Check
check b s = record { fails = b; status = s }

unfoldable pub checked : List Check → (Status → Result) → Result → Result
checked [] refuse act = act
checked (c ∷ cs) refuse act = cond c.fails (refuse c.status) (checked cs refuse act)

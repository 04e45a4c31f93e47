-- What each exported function leaves, for every input. The caller keeps the manager record as words (`state`) and lends the memory and the
-- words of the answer. Words that say no record, an answer that is too short and a choice that is none are answered 25, with nothing
-- changed; else the call is performed. Assumes nothing.
use Rattle.std.specs.Prelude.{ℕ, ◌+◌, ◌*◌, ◌≡◌, cond, ◌&&◌, List, [], ◌∷◌, eqb, leb, length, Option, Some, None}
use Rattle.std.proofs.lemmas.List.Edits.{sets}
use Rattle.manager.specs.Record.{tasks, fresh}
use Rattle.manager.specs.Result.{Result, answer_of, refused}
use Rattle.manager.specs.Status.{number_of}
use Rattle.manager.specs.declared.Answer.{Answer}
use Rattle.manager.specs.declared.Call.{Call}
use Rattle.manager.specs.declared.Status.{Status}
use Rattle.manager.specs.declared.Status.TheVariants.{InternalError}
use Rattle.manager.specs.declared.Wait.{Wait}
use Rattle.manager.specs.declared.Wait.TheVariants.{No, Yes}
use Rattle.packing.specs.Packing.{all_words, pack, unpack, well_formed}
pub use Rattle.packing.specs.Packing.{notice_words}
pub use Rattle.manager.specs.Perform.{perform}
pub use Rattle.manager.specs.Access.{read_segment, write_segment}

-- the words of an answer: its value, the six values of its information, and a notice of three words for each task
abbrev pub notices_at : ℕ
notices_at = 7

abbrev pub answer_size : ℕ
answer_size = notices_at + 3 * tasks

unfoldable pub answer_words : Answer → List ℕ
answer_words a =
    a.value
    ∷ a.information.free_count
    ∷ a.information.free_largest
    ∷ a.information.free_total
    ∷ a.information.held_count
    ∷ a.information.held_largest
    ∷ a.information.held_total
    ∷ all_words notice_words a.notices

-- what a call leaves
pub record Outcome : Type 0 where
  pub state : List ℕ
  pub memory : List ℕ
  pub answer : List ℕ
  pub status : ℕ

-- 25, and nothing is changed
abbrev pub damaged : List ℕ → List ℕ → List ℕ → Outcome
damaged state m answer = record { state = state; memory = m; answer = answer; status = number_of InternalError }

-- what a directive gave, in words; words of the answer past the 55th are left
abbrev pub performed : List ℕ → Result → Outcome
performed answer s =
    record {
      state = pack s.manager;
      memory = s.memory;
      answer = sets answer 0 (answer_words (answer_of s));
      status = number_of s.status;
    }

-- the number of what was answered; 25 where nothing was
abbrev pub number : Option Status → ℕ
number (Some s) = number_of s
number None = number_of InternalError

-- a call
unfoldable pub called : List ℕ → List ℕ → List ℕ → Call → Outcome
called state m answer call =
    cond (well_formed state && leb answer_size (length answer)) (performed answer (perform m (unpack state) call)) (damaged state m answer)

-- a call with an argument that is a choice, a number up to the last
abbrev pub chosen : ℕ → ℕ → List ℕ → List ℕ → List ℕ → Call → Outcome
chosen last choice state m answer call = cond (leb choice last) (called state m answer call) (damaged state m answer)

abbrev pub wait_at : ℕ → Wait
wait_at w = cond (eqb w 0) No Yes

-- WHAT EACH CONTRACT SAYS: the record's words, the memory, the words of the answer and the status are those of the definition
pub record Leaves (o : Outcome) (state m answer : List ℕ) (status : ℕ) : Type 0 where
  pub words : state ≡ o.state
  pub memory : m ≡ o.memory
  pub answered : answer ≡ o.answer
  pub number : status ≡ o.status

-- the words of a held segment; none where the record's words say none
unfoldable pub segment_words : List ℕ → List ℕ → ℕ → ℕ → List ℕ
segment_words state m id address = cond (well_formed state) (read_segment m (unpack state) id address) []

-- reading: the number of the segment's words, and as many of them as there is room for
pub record Reads (part words after : List ℕ) (count : ℕ) : Type 0 where
  pub copied : after ≡ sets words 0 part
  pub many : count ≡ length part

-- writing
unfoldable pub segment_written : List ℕ → List ℕ → ℕ → ℕ → ℕ → List ℕ → Result
segment_written state m id address first words =
    cond (well_formed state) (write_segment m (unpack state) id address first words) (refused m fresh InternalError)

pub record Writes (s : Result) (m : List ℕ) (status : ℕ) : Type 0 where
  pub memory : m ≡ s.memory
  pub number : status ≡ number_of s.status

-- Rule 15.3: "Output: `status=`, `value=` (six for info, zeros if refused), then for each notice `task=`, `with=`, `value=`."
-- Assumes nothing.
use Rattle.std.specs.Prelude.{ℕ, suc, ◌+◌, ◌*◌, ◌≤◌, ◌≡◌, List, [], ◌∷◌, ◌++◌, Bool, true, false, cond, length, take, eqb}
use Prim.Native.String.{String}
use Rattle.std.proofs.lemmas.List.Edits.{sets}
use Rattle.text.specs.Bytes.{bytes}
use Rattle.text.specs.Decimal.{line_of}
use Rattle.manager.specs.Status.{number_of}
use Rattle.manager.specs.Record.{tasks}
use Rattle.manager.specs.declared.Notice.{Notice}
use Rattle.manager.specs.declared.Information.{Information}
use Rattle.manager.specs.declared.Answer.{Answer}

-- a line of output
abbrev pub line : String → ℕ → List ℕ
line key n = line_of (bytes key) n

-- the six values: count, largest and total of the free segments, then of the held ones
unfoldable pub information_text : Information → List ℕ
information_text i =
    line "value=" i.free_count ++
    (line "value=" i.free_largest ++
    (line "value=" i.free_total ++
    (line "value=" i.held_count ++
    (line "value=" i.held_largest ++ line "value=" i.held_total))))

-- six values, or one
unfoldable pub values_text : Bool → Answer → List ℕ
values_text true a = information_text a.information
values_text false a = line "value=" a.value

unfoldable pub notice_text : Notice → List ℕ
notice_text n = line "task=" n.task ++ (line "with=" (number_of n.status) ++ line "value=" n.address)

-- an unused place has task 0
unfoldable pub notices_text : List Notice → List ℕ
notices_text [] = []
notices_text (n ∷ ns) = cond (eqb n.task 0) (notices_text ns) (notice_text n ++ notices_text ns)

-- the answer to a call: with six values, or with one
unfoldable pub answer_text : Bool → Answer → List ℕ
answer_text six a = line "status=" (number_of a.status) ++ (values_text six a ++ notices_text a.notices)

-- how many newlines there are
unfoldable pub newlines : List ℕ → ℕ
newlines [] = 0
newlines (b ∷ bs) = cond (eqb b 10) (suc (newlines bs)) (newlines bs)

-- the number of the line that starts at p, from 1
abbrev pub line_number : List ℕ → ℕ → ℕ
line_number s p = newlines (take p s) + 1

-- ---- what a function that writes a text ensures: the text, of at most `most` bytes, stands in the buffer from `at` on and all else is as
-- before, and it ends at e
pub record Puts (most : ℕ) (before : List ℕ) (at : ℕ) (text after : List ℕ) (e : ℕ) : Type 0 where
  pub stores : after ≡ sets before at text
  pub ends : e ≡ at + length text
  pub within : e ≤ at + most

-- ---- the most bytes that each text has

-- a line of a key of n bytes: a number has at most ten digits
abbrev pub most_line : ℕ → ℕ
most_line n = n + 11

abbrev pub most_bad : ℕ
most_bad = most_line (length (bytes "bad="))

abbrev pub most_status : ℕ
most_status = most_line (length (bytes "status="))

abbrev pub most_value : ℕ
most_value = most_line (length (bytes "value="))

abbrev pub most_values : ℕ
most_values = 6 * most_value

abbrev pub most_notice : ℕ
most_notice = most_line (length (bytes "task=")) + (most_line (length (bytes "with=")) + most_value)

abbrev pub most_notices : ℕ
most_notices = tasks * most_notice

abbrev pub most_answer : ℕ
most_answer = most_status + (most_values + most_notices)

-- Rule 15.3: the whole run, from a script and a memory to what is written. Assumes nothing.
use Rattle.std.specs.Prelude.{ℕ, ◌+◌, ◌*◌, ◌/◌, List, [], ◌∷◌, ◌++◌, cond, length, ltb, Option, Some, None, Result, Ok, Err}
use Rattle.manager.specs.Record.{fresh}
use Rattle.manager.specs.Result.{answer_of}
use Rattle.manager.specs.declared.Manager.{Manager}
use Rattle.manager.specs.declared.Call.{Call}
use Rattle.manager.specs.Perform.{perform}
use Rattle.script.specs.Table.{row_of}
use Rattle.script.specs.Reading.{Script, read_all}
use Rattle.script.specs.declared.BadLine.{BadLine}
use Rattle.run.specs.Output.{line, answer_text, line_number, most_bad, most_answer}

-- "Calls run as they are read": the answers to the calls, each on what the one before it left
unfoldable pub answers : List ℕ → Manager → List Call → List ℕ
answers m d [] = []
answers m d (c ∷ cs) = answer_text (row_of c).six_values (answer_of (perform m d c)) ++ answers (perform m d c).memory (perform m d c).manager cs

-- "The first bad or missing line ends the run with `bad=` and its line number from 1"
abbrev pub bad_text : List ℕ → Option ℕ → List ℕ
bad_text s None = []
bad_text s (Some p) = line "bad=" (line_number s p)

-- where the first bad or missing line starts, if the run stopped at one
abbrev pub bad_of : {A : Type 0} → Result A BadLine → Option ℕ
bad_of (Ok x) = None
bad_of (Err b) = Some b.at

unfoldable pub run_script : List ℕ → List ℕ → Manager → Script → List ℕ
run_script s m d t = answers m d t.calls ++ bad_text s t.bad

-- "reads at most 32,768 bytes"; "bytes past 32,768 give only `bad=0`"
abbrev pub most_script : ℕ
most_script = 32768

unfoldable pub run_all : List ℕ → List ℕ → List ℕ
run_all s m = cond (ltb most_script (length s)) (line "bad=" 0) (run_script s m fresh (read_all s))

-- what any script can write: a call takes 10 bytes or more, so the answers have at most `most_per_byte` bytes for each byte of the script
abbrev pub least_call : ℕ
least_call = 10

abbrev pub most_per_byte : ℕ
most_per_byte = most_answer / least_call + 1

abbrev pub most_answers : ℕ
most_answers = most_per_byte * most_script

abbrev pub most_output : ℕ
most_output = most_answers + most_bad

-- the memory after the run
unfoldable pub memory_after : List ℕ → Manager → List Call → List ℕ
memory_after m d [] = m
memory_after m d (c ∷ cs) = memory_after (perform m d c).memory (perform m d c).manager cs

unfoldable pub memory_all : List ℕ → List ℕ → List ℕ
memory_all s m = cond (ltb most_script (length s)) m (memory_after m fresh (read_all s).calls)

-- WHAT THE PROGRAM WRITES, BY THE RECEIPTS ALONE: the abstract manager answers each call of the script, and the receipts by which it
-- answers the next are written from its own replies. No memory word and no manager record is in this statement. Assumes nothing.
use Rattle.std.specs.Prelude.{ℕ, ◌≤◌, ◌≡◌, Bool, true, false, cond, List, [], ◌∷◌, ◌++◌, length, ltb}
use Rattle.manager.specs.Record.{most_words}
use Rattle.manager.specs.Status.{number_of}
use Rattle.manager.specs.declared.Call.{Call}
use Rattle.trace.specs.Receipts.{Receipts, Reply, blank}
use Rattle.trace.specs.Replies.{by_receipts, note}
use Rattle.script.specs.Table.{row_of}
use Rattle.script.specs.Reading.{read_all}
use Rattle.run.specs.Output.{line, information_text, notices_text}
use Rattle.run.specs.Run.{most_script, bad_text, run_all}

-- a reply as it is written: its status, its value or the six values of an information call, and its notices
abbrev pub values_of : Bool → Reply → List ℕ
values_of true r = information_text r.information
values_of false r = line "value=" r.value

unfoldable pub reply_text : Bool → Reply → List ℕ
reply_text six r = line "status=" (number_of r.status) ++ (values_of six r ++ notices_text r.notices)

-- the replies to the calls over a memory of n words, each by the receipts that the ones before it wrote
unfoldable pub replies_text : ℕ → Receipts → List Call → List ℕ
replies_text n t [] = []
replies_text n t (c ∷ cs) =
    let r = by_receipts n t c in
    reply_text (row_of c).six_values r ++ replies_text n (note c r t) cs

-- "reads at most 32,768 bytes"; the first bad or missing line ends the run
unfoldable pub written : ℕ → List ℕ → List ℕ
written n s = cond (ltb most_script (length s)) (line "bad=" 0) (replies_text n blank (read_all s).calls ++ bad_text s (read_all s).bad)

-- END TO END: the output of every script, over any memory of an allowed length
abbrev pub ProgramByReceipts : Type 0
ProgramByReceipts = (s m : List ℕ) → 1 ≤ length m → length m ≤ most_words → run_all s m ≡ written (length m) s

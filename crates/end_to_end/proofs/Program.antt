-- The program's output by the receipts (`theorem`): demand 3 says of every state that the calls before reach what the next one is
-- answered; one induction over the script's calls. Assumes nothing.
use mathlib.Core.Path.{◌≡◌, refl, ap, ◌∙◌}
use mathlib.Core.Bool.{Bool, true, false}
use mathlib.Core.List.{List, [], ◌∷◌, ◌++◌}
use Prim.Native.Nat.{ℕ, zero, suc, ◌-◌, ◌≤◌}
use lib.ListN.{length, replicate}
use Rattle.manager.specs.Record.{most_words, tasks, no_notice}
use Rattle.manager.specs.Result.{Result, answer_of}
use Rattle.manager.specs.Perform.{perform, defined}
use Rattle.manager.specs.declared.Notice.{Notice}
use Rattle.manager.specs.declared.Call.{Call}
use Rattle.trace.specs.Receipts.{reply_of}
use Rattle.trace.specs.Replies.{by_receipts, note}
use Rattle.trace.specs.Trace.{State, Ask, call, after, Runs, end, ask, clients, start}
use Rattle.trace.proofs.Start.{start_inv}
use Rattle.trace.proofs.Queue.Waiters.{waiter_places}
use Rattle.trace.proofs.Runs.{runs}
use Rattle.trace.proofs.Theorem.{theorem}
use Rattle.script.specs.Table.{row_of}
use Rattle.script.specs.Reading.{read_all}
use Rattle.effects.proofs.Theorem.{calls as effects}
use Rattle.run.specs.Output.{notices_text, answer_text, values_text}
use Rattle.run.specs.Run.{answers, run_script, run_all}
use Rattle.end_to_end.specs.Program.{reply_text, replies_text, written, ProgramByReceipts}

-- unused places of the notices write nothing
unused_text : (n : ℕ) → notices_text (replicate n no_notice) ≡ []
unfolding notices_text
unused_text zero = refl
unused_text (suc n) = unused_text n

padded_text : (ns : List Notice) (n : ℕ) → notices_text (ns ++ replicate n no_notice) ≡ notices_text ns
unfolding notices_text
padded_text [] n = unused_text n
padded_text (x ∷ ns) n = rw (padded_text ns n)

-- an answer is written as its reply
answer_text_lem : (six : Bool) (s : Result) → answer_text six (answer_of s) ≡ reply_text six (reply_of s)
unfolding answer_text reply_text values_text
answer_text_lem true s = rw (padded_text s.notices (tasks - length s.notices))
answer_text_lem false s = rw (padded_text s.notices (tasks - length s.notices))

-- one call more
pub one_more : {s u : State} → Runs defined s u → (a : Ask) → Runs defined s (after defined a u)
one_more end a = ask a end
one_more (ask b r) a = ask b (one_more r a)
one_more (clients m' w r) a = clients m' w (one_more r a)

module _ (m : List ℕ) (some : 1 ≤ length m) (most : length m ≤ most_words) where
  -- the calls that are left, in a state that those before reach
  answers_by : (s : State) → Runs defined (start m) s → (cs : List Call)
      → answers s.memory s.manager cs ≡ replies_text (length s.memory) s.receipts cs
  unfolding answers replies_text after
  answers_by s r [] = refl
  answers_by s r (c ∷ cs) =
      let a = perform s.memory s.manager c in
      let six = (row_of c).six_values in
      let e : reply_of a ≡ by_receipts (length s.memory) s.receipts c = (theorem m some most s r).replies c in
      let first : answer_text six (answer_of a) ≡ reply_text six (by_receipts (length s.memory) s.receipts c) = answer_text_lem six a ∙ ap (reply_text six) e in
      let rest : answers a.memory a.manager cs ≡ replies_text (length a.memory) (note c (reply_of a) s.receipts) cs
      = answers_by (after defined (call c) s) (one_more r (call c)) cs in
      let v = runs (start_inv m some most) r in
      let long : length a.memory ≡ length s.memory
      = ((effects s.memory s.manager c).only (record { regions = v.picture.region_slots; partitions = v.picture.partition_slots; waiters = waiter_places _ _ v.waits })).size in
      let same : replies_text (length a.memory) (note c (reply_of a) s.receipts) cs ≡ replies_text (length s.memory) (note c (by_receipts (length s.memory) s.receipts c) s.receipts) cs
      = rw (long, e) in
      rw (first, rest ∙ same)

pub theorem_program : ProgramByReceipts
unfolding run_all run_script written
theorem_program s m some most = rw (answers_by m some most (start m) end (read_all s).calls)

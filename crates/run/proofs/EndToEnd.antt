-- THE WHOLE PROGRAM (`written_runs`): a script that is written from calls, of at most 32,768 bytes, is answered with the answers to those calls
-- and nothing else. Assumes nothing.
use mathlib.Core.Path.{◌≡◌}
use Prim.Native.Nat.{ℕ, ◌≤◌}
use mathlib.Core.List.{List, append-nil}
use lib.ListN.{length}
use borrow.Author.Tests.{le-ltb}
use Rattle.manager.specs.Record.{fresh}
use Rattle.manager.specs.declared.Call.{Call}
use Rattle.script.specs.Written.{write_all, FitAll}
use Rattle.script.proofs.WrittenScript.{reads_back}
use Rattle.run.specs.Run.{most_script, answers, run_script, run_all, memory_after, memory_all}

pub written_runs : (cs : List Call) (m : List ℕ) → FitAll cs → length (write_all cs) ≤ most_script → run_all (write_all cs) m ≡ answers m fresh cs
unfolding run_all run_script
written_runs cs m f h = rw (le-ltb most_script (length (write_all cs)) h, reads_back cs f) (append-nil (answers m fresh cs))

pub written_memory : (cs : List Call) (m : List ℕ) → FitAll cs → length (write_all cs) ≤ most_script → memory_all (write_all cs) m ≡ memory_after m fresh cs
unfolding memory_all
written_memory cs m f h = rw (le-ltb most_script (length (write_all cs)) h, reads_back cs f)

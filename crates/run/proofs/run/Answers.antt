-- `run::run` meets its contract: a script that is too long gives only `bad=0`, and another its answers and the line that says which is bad.
-- Assumes nothing.
use Rattle.std.proofs.Common.{sym, ◌∙◌, ap}
use Rattle.run.specs.Run.{bad_of}
use Rattle.run.proofs.Running.{puts_long, puts_bad, puts_end, memory_long, memory_run}
use Rattle.run.proofs.run.Goals.{then-src-gt-SCRIPT, else-src-gt-SCRIPT+in-Err, else-src-gt-SCRIPT+in_default}
use Rattle.run.proofs.run.Goals as goal

pub returns-clause-puts : goal.returns-clause-puts
returns-clause-puts c =
    let n = c.new-out.ensures in
    elim c.if-src-gt-SCRIPT.branch [
      | then-src-gt-SCRIPT w ↦ rw w.out-is (puts_long _ _ n.buffer n.empty w.if-src-gt-SCRIPT.true w.bad.ensures)
      | else-src-gt-SCRIPT+in-Err w ↦
          let r = w.run_calls.ensures in
          rw w.out-is (puts_bad _ _ n.buffer n.empty w.if-src-gt-SCRIPT.false _ _ r.wrote (sym (ap bad_of w.in-Err.is) ∙ r.stops) w.line_number.ensures w.bad-in-Err.ensures)
      | else-src-gt-SCRIPT+in_default w ↦
          let r = w.run_calls.ensures in
          rw w.out-is (puts_end _ _ n.buffer n.empty w.if-src-gt-SCRIPT.false r.wrote (sym (ap bad_of w.in_default.is) ∙ r.stops))
    ]

pub returns-clause-memory : goal.returns-clause-memory
returns-clause-memory c =
    elim c.if-src-gt-SCRIPT.branch [
      | then-src-gt-SCRIPT w ↦ rw w.mem-is (memory_long _ _ w.if-src-gt-SCRIPT.true)
      | else-src-gt-SCRIPT+in-Err w ↦ rw w.mem-is (memory_run _ _ w.if-src-gt-SCRIPT.false w.run_calls.ensures.memory)
      | else-src-gt-SCRIPT+in_default w ↦ rw w.mem-is (memory_run _ _ w.if-src-gt-SCRIPT.false w.run_calls.ensures.memory)
    ]

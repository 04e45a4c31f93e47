use Rattle.std.proofs.Common.{◌≡◌, ◌-◌, length}
use Rattle.run.proofs.Running.{Running}
use Rattle.run.proofs.run_calls.Given as goal

abbrev pub invariant-loop-read : goal.invariant-loop-read
invariant-loop-read l = Running l.src l.initial.mem l.initial.out l.mem l.out l.d l.at × (length l.mem ≡ length l.initial.mem)

abbrev pub decreases-loop-read : goal.decreases-loop-read
decreases-loop-read l = length l.src - l.at

-- `run::output::Writer::values` meets its contract: six values, or one. Assumes nothing.
use Rattle.std.proofs.Common.{arith}
use Rattle.run.specs.Output.{values_text}
use Rattle.run.proofs.Writing.{wrote_most}
use Rattle.run.proofs.output.Writer.values.Goals as goal

pub returns-then-six : goal.returns-then-six
unfolding values_text
returns-then-six c = rw c.if-six.true c.information.ensures

pub returns-else-six : goal.returns-else-six
unfolding values_text
returns-else-six c = rw c.if-six.false (wrote_most (omega arith) c.value.ensures)

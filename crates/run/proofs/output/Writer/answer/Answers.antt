-- `run::output::Writer::answer` meets its contract: status, values and notices one after another. Assumes nothing.
use Rattle.run.specs.Output.{answer_text}
use Rattle.run.proofs.Writing.{wrote_append}
use Rattle.run.proofs.output.Writer.answer.Goals as goal

pub returns : goal.returns
unfolding answer_text
returns c = let n = c.from.ensures in wrote_append (rw n at c.line.ensures) (wrote_append c.values.ensures c.notices.ensures)

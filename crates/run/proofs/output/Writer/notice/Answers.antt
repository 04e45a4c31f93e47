-- `run::output::Writer::notice` meets its contract: the three lines one after another. Assumes nothing.
use Rattle.run.specs.Output.{notice_text}
use Rattle.run.proofs.Writing.{wrote_append}
use Rattle.run.proofs.output.Writer.notice.Goals as goal

pub returns : goal.returns
unfolding notice_text
returns c = let n = c.from.ensures in wrote_append c.line.ensures (wrote_append (rw n at c.line-2.ensures) c.value.ensures)

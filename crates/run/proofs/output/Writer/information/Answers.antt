-- `run::output::Writer::information` meets its contract: the six lines one after another. Assumes nothing.
use Rattle.run.specs.Output.{information_text}
use Rattle.run.proofs.Writing.{wrote_append}
use Rattle.run.proofs.output.Writer.information.Goals as goal

pub returns : goal.returns
unfolding information_text
returns c =
    wrote_append c.value.ensures
    (wrote_append c.value-2.ensures
    (wrote_append c.value-3.ensures
    (wrote_append c.value-4.ensures
    (wrote_append c.value-5.ensures c.value-6.ensures))))

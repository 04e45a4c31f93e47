-- `run::output::Writer::text` meets its contract: what was copied into the buffer is the stores of the text. Assumes nothing.
use Rattle.std.proofs.Common.{arith, refl}
use Rattle.run.proofs.Writing.{copied}
use Rattle.run.proofs.output.Writer.text.Goals as goal

pub returns : goal.returns
returns c = copied _ _ _ c.copy_from_slice.ensures.after (omega arith) c.requires refl refl refl

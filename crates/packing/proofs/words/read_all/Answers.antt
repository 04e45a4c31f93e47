-- The first words say the next value, or none, and the rest say the others. Assumes nothing.
use Rattle.std.proofs.Common.{rules}
use Rattle.packing.proofs.Reading.{reads}
use Rattle.packing.proofs.words.read_all.Goals as goal

pub loop-x-init : goal.loop-x-init
loop-x-init g c = search (rules, reads)

pub returns-in_err-first : goal.returns-in_err-first
returns-in_err-first g c = search (rules, reads)

pub returns-in_err-x : goal.returns-in_err-x
returns-in_err-x g c = search (rules, reads)

pub loop-x-preserved : goal.loop-x-preserved
loop-x-preserved g c = search (rules, reads)

pub returns : goal.returns
returns g c = search (rules, reads)

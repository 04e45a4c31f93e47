use Rattle.std.proofs.Common.{◌*◌, take}
use Rattle.run.specs.Output.{notices_text, most_notice}
use Rattle.run.specs.Writer.{Wrote}
use Rattle.run.proofs.output.Writer.notices.Given as goal

abbrev pub invariant-loop-n : goal.invariant-loop-n
invariant-loop-n l = Wrote (most_notice * l.n-index) (notices_text (take l.n-index l.notices)) l.initial.self l.self

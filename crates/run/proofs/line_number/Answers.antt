-- `run::line_number` meets its contract: the newlines are counted. Assumes nothing.
use Rattle.std.proofs.Common.{◌+◌, ◌∙◌, ap}
use Rattle.run.proofs.Laws.{newlines_count}
use Rattle.run.proofs.line_number.Goals as goal

pub returns : goal.returns
returns c = ap (λ n. n + 1) (c.newlines.ensures ∙ newlines_count _)

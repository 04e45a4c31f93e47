-- Whichever test holds first, the answer is the definition's. Assumes nothing.
use Rattle.std.proofs.Common.{rules}
use Rattle.gauge.specs.Gauge.{wrong}
use Rattle.gauge.proofs.refuses.Goals as goal

pub returns-then-total-eq0 : goal.returns-then-total-eq0
unfolding wrong
returns-then-total-eq0 c = search rules

pub returns-else-total-eq0 : goal.returns-else-total-eq0
unfolding wrong
returns-else-total-eq0 c = search rules

-- A refused reading leaves the gauge; else the new fills and the comparison are those of the definition. Assumes nothing.
use Rattle.std.proofs.Common.{rules}
use Rattle.gauge.specs.Gauge.{reading}
use Rattle.gauge.proofs.observe.Goals as goal

pub returns-then-refuses : goal.returns-then-refuses
unfolding reading
returns-then-refuses c = search rules

pub returns : goal.returns
unfolding reading
returns c = search rules

-- The comparisons of the range are those of the definition. Assumes nothing.
use Rattle.std.proofs.Common.{rules}
use lib.Ieee.{le, of_bits}
use Rattle.gauge.proofs.is_fill.Goals as goal

pub returns : goal.returns
unfolding le of_bits
returns c = search rules

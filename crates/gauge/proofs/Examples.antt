-- THE EXAMPLES, COMPUTED: every row of the table holds of the definitions. Assumes nothing.
use mathlib.Core.Path.{◌≡◌, refl}
use mathlib.Core.Bool.{true}
use Rattle.manager.specs.Lists.{every}
use Rattle.manager.specs.Map.{sum_of, largest_of}
use Rattle.gauge.specs.Examples.{holds, table}
use Rattle.gauge.proofs.Computing.{floats, readings}

pub examples : every holds table ≡ true
unfolding floats readings every sum_of largest_of
examples = refl

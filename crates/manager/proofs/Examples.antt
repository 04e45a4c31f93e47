-- THE BENCH EXAMPLES, COMPUTED: every row of the table holds of the definitions. Assumes nothing.
use mathlib.Core.Path.{◌≡◌, refl}
use mathlib.Core.Bool.{true}
use Rattle.manager.specs.Lists.{every}
use Rattle.manager.specs.Examples.{holds, table}
use Rattle.manager.proofs.Computing.{maps, records, directives}

pub examples : every holds table ≡ true
unfolding maps records directives
examples = refl

-- THE BENCH EXAMPLES BY THE RECEIPTS, COMPUTED: every row of the table holds of the abstract manager. Assumes nothing.
use mathlib.Core.Path.{◌≡◌, refl}
use mathlib.Core.Bool.{true}
use Rattle.manager.specs.Lists.{every}
use Rattle.manager.specs.Examples.{table}
use Rattle.manager.proofs.Computing.{maps, records}
use Rattle.trace.specs.Examples.{holds}
use Rattle.trace.proofs.Computing.{receipts}

pub examples : every holds table ≡ true
unfolding maps records receipts
examples = refl

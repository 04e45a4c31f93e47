-- The next place is taken by what stands behind it; in the end the last one is unused. Assumes nothing.
use Rattle.std.proofs.Common.{rules}
use Rattle.queue.proofs.Laws.{pulling}
use Rattle.queue.proofs.pull.Goals as goal

pub loop-i-init : goal.loop-i-init
loop-i-init c = search (rules, pulling)

pub loop-i-preserved : goal.loop-i-preserved
loop-i-preserved c = search (rules, pulling)

pub returns-in-Some : goal.returns-in-Some
returns-in-Some c = search (rules, pulling)

pub returns-in_default : goal.returns-in_default
returns-in_default c = search (rules, pulling)

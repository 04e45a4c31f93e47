-- The next place gets what is carried, and what stood there goes on. Assumes nothing.
use Rattle.std.proofs.Common.{rules}
use Rattle.queue.proofs.Laws.{pushing}
use Rattle.queue.proofs.push.Goals as goal

pub loop-x-init : goal.loop-x-init
loop-x-init c = search (rules, pushing)

pub loop-x-preserved : goal.loop-x-preserved
loop-x-preserved c = search (rules, pushing)

pub returns : goal.returns
returns c = search (rules, pushing)

-- The next word goes where it belongs; the words left to copy, stored from here on, give the whole. Assumes nothing.
use Rattle.std.proofs.Common.{rules}
use Rattle.access.proofs.Laws.{copying}
use Rattle.access.proofs.copy.Goals as goal

pub loop-k-init : goal.loop-k-init
loop-k-init c = search (rules, copying)

pub loop-k-preserved : goal.loop-k-preserved
loop-k-preserved c = search (rules, copying)

pub returns : goal.returns
returns c = search (rules, copying)

use Rattle.access.proofs.Laws.{Copying}
use Rattle.access.proofs.copy.Given as goal

abbrev pub invariant-loop-k : goal.invariant-loop-k
invariant-loop-k l = Copying l.initial.words l.from l.words l.k

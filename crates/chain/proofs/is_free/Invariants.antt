use Rattle.chain.proofs.Laws.{Seeking}
use Rattle.chain.proofs.is_free.Given as goal

abbrev pub invariant-loop-left : goal.invariant-loop-left
invariant-loop-left l = Seeking l.mem l.a l.initial.left l.initial.at l.left l.at

abbrev pub decreases-loop-left : goal.decreases-loop-left
decreases-loop-left l = l.left

use Rattle.queue.proofs.Laws.{Pushing}
use Rattle.queue.proofs.push.Given as goal

abbrev pub invariant-loop-x : goal.invariant-loop-x
invariant-loop-x l = Pushing l.fn.w l.fn.ws l.ws l.carried l.x-index

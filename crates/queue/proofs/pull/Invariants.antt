use Rattle.queue.proofs.Laws.{Pulling}
use Rattle.queue.proofs.pull.Given as goal

abbrev pub invariant-loop-i : goal.invariant-loop-i
invariant-loop-i l = Pulling l.initial.ws l.ws l.i

use Rattle.map.proofs.Walked.{left}
use Rattle.segments.proofs.Walk.{Placing}
use Rattle.segments.proofs.pages.find.Given as goal

abbrev pub invariant-loop-s : goal.invariant-loop-s
invariant-loop-s l = Placing l.map l.first l.n (left l.s-iterator)

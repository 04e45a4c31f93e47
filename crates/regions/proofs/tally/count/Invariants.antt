use Rattle.map.proofs.Walked.{left}
use Rattle.regions.proofs.Count.{Counting}
use Rattle.regions.proofs.tally.count.Given as goal

abbrev pub invariant-loop-s : goal.invariant-loop-s
invariant-loop-s l = Counting l.map (left l.s-iterator) l.free l.held

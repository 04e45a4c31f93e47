use Rattle.segments.proofs.Rounds.{Rounds}
use Rattle.segments.proofs.serving.serve_all.Given as goal

abbrev pub invariant-loop-i : goal.invariant-loop-i
invariant-loop-i l = Rounds l.initial.mem l.initial.told l.mem l.told l.i

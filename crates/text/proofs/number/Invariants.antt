use Rattle.text.proofs.Laws.{NumberLeft}
use Rattle.text.proofs.number.Given as goal

abbrev pub invariant-loop-b : goal.invariant-loop-b
invariant-loop-b l = NumberLeft l.text l.n l.b-index

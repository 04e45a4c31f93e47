use Rattle.packing.proofs.Writing.{Writing}
use Rattle.packing.proofs.words.write_all.Given as goal

abbrev pub invariant-loop-k : goal.invariant-loop-k
invariant-loop-k g l = Writing g.T.ToWords.words g.row.N l.all l.words l.k

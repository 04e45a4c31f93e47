use Rattle.packing.proofs.Reading.{Reading}
use Rattle.std.proofs.Common.{length}
use Rattle.packing.proofs.words.read_all.Given as goal

abbrev pub invariant-loop-x : goal.invariant-loop-x
invariant-loop-x g l = Reading g.T.FromWords.said g.row.N (length l.fn.all) l.fn.words l.all l.rest l.x-index

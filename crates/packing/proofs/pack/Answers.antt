-- The three parts, one behind the other, are all of the words. Assumes nothing.
use Rattle.std.proofs.Common.{rules}
use Rattle.packing.proofs.Laws.{words_put}
use Rattle.packing.proofs.pack.Goals as goal

pub returns : goal.returns
returns c = search (rules, words_put)

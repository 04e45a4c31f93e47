-- The words of the next value go behind those of the values before it. Assumes nothing.
use Rattle.std.proofs.Common.{rules, ◌∙◌}
use Rattle.packing.proofs.Writing.{writes, write_next}
use Rattle.packing.proofs.words.write_all.Goals as goal

pub loop-k-init : goal.loop-k-init
loop-k-init g c = search (rules, writes)

pub loop-k-preserved : goal.loop-k-preserved
loop-k-preserved g c =
    write_next _ _ _ _ _ _ _ c.loop-k.invariant (search rules) c.loop-k-test.true c.index-all-k.is (g.met.T.ToWords.exact _) _
    (c.copy_from_slice.ensures.after ∙ c.to_words.ensures)

pub returns : goal.returns
returns g c = search (rules, writes)

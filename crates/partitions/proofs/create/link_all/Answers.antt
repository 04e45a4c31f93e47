-- `link_all`: what is left to chain gives the whole. Assumes nothing.
use Rattle.std.proofs.Common.{arith, sym, ◌∙◌}
use Rattle.partitions.proofs.Making.{linked_more, linked_all}
use Rattle.partitions.proofs.create.link_all.Goals as goal
use Rattle.partitions.proofs.create.link_all.Goals.{then-k-count, else-k-count, then-k-gt0, else-k-gt0}

pub loop-k-preserved : goal.loop-k-preserved
loop-k-preserved c =
    linked_more _ _ _ c.loop-k-test.true _ _
    (elim c.if-k-count.branch [ then-k-count w ↦ grind arith | else-k-count w ↦ grind arith ])
    (elim c.if-k-gt0.branch [ then-k-gt0 w ↦ grind arith | else-k-gt0 w ↦ grind arith ])
    _ c.set_links.ensures
    ∙ c.loop-k.invariant

pub returns : goal.returns
returns c = sym (linked_all _ _ _ c.loop-k-test.false) ∙ c.loop-k.invariant

-- `count`: each turn of the walk counts one segment. Assumes nothing.
use Rattle.std.proofs.Common.{rules, ap, ◌∙◌}
use Rattle.map.proofs.Walked.{left}
use Rattle.regions.proofs.Count.{counting, count_start, count_free, count_held, nothing}
use Rattle.regions.proofs.tally.count.Goals as goal

pub loop-s-init : goal.loop-s-init
loop-s-init c =
    count_start _ _ _ _ c.requires.0 c.requires.1 (ap left c.into_iter-s-iterator.ensures.into_iter_gives ∙ c.of-s-items.ensures)
    (nothing c.default-free.result c.default-free.ensures) (nothing c.default-held.result c.default-held.ensures)

pub add-requires : goal.add-requires
add-requires c = search (rules, counting)

pub loop-s-preserved-then-s : goal.loop-s-preserved-then-s
loop-s-preserved-then-s c = count_held _ _ _ _ c.loop-s.invariant c.in-Some.s _ c.in-Some.ensures.steps c.if-s.true _ c.add.ensures

pub add-requires-else-s : goal.add-requires-else-s
add-requires-else-s c = search (rules, counting)

pub loop-s-preserved : goal.loop-s-preserved
loop-s-preserved c = count_free _ _ _ _ c.loop-s.invariant c.in-Some.s _ c.in-Some.ensures.steps c.if-s.false _ c.add-else-s.ensures

pub returns-clause-free : goal.returns-clause-free
returns-clause-free c = search (rules, counting)

pub returns-clause-held : goal.returns-clause-held
returns-clause-held c = search (rules, counting)

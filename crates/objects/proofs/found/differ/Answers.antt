-- Each name differs from those behind it, or the first that does not ends the loop. Assumes nothing.
use Rattle.std.proofs.Common.{ap, sym, ◌∙◌, length, arith}
use Rattle.manager.proofs.Laws.Lists.{pairwise_start}
use Rattle.objects.proofs.Pairs.{names_clash, names_next, names_end}
use Rattle.objects.proofs.found.differ.Goals as goal

pub loop-i-init : goal.loop-i-init
loop-i-init g c = pairwise_start _ _ _ (ap length (sym c.slots-x-items.ensures.these) ∙ c.slots-x-items.ensures.all)

pub returns-then-shares_name : goal.returns-then-shares_name
returns-then-shares_name g c =
    names_clash g.T.Slot.name (g.T.Slot.emptied 0) _ _ _ c.loop-i.invariant _ _ c.slots-x-items.ensures.these c.slots.ensures.these
    c.loop-i-test.true _ c.x-item.is _ c.name.ensures _ _ c.shares_name.ensures (omega arith) c.if-shares_name.true

pub loop-i-preserved : goal.loop-i-preserved
loop-i-preserved g c =
    names_next g.T.Slot.name (g.T.Slot.emptied 0) _ _ _ c.loop-i.invariant _ _ c.slots-x-items.ensures.these c.slots.ensures.these
    c.loop-i-test.true _ c.x-item.is _ c.name.ensures _ _ c.shares_name.ensures (omega arith) c.if-shares_name.false

pub returns : goal.returns
returns g c = names_end g.T.Slot.name (g.T.Slot.emptied 0) _ _ _ c.loop-i.invariant _ c.slots-x-items.ensures.these c.loop-i-test.false

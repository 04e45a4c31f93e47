-- Those of the regions, and those of the partitions. Assumes nothing.
use Rattle.std.proofs.Common.{sym, ◌∙◌}
use Rattle.manager.specs.Region.{overlap}
use Rattle.objects.proofs.Pairs.{or_else, or_yes, any_parts}
use Rattle.objects.proofs.areas.overlaps.Goals as goal

pub returns-then-meets : goal.returns-then-meets
returns-then-meets c =
    or_yes _ _ _ c.meets.ensures c.if-meets.true ∙ sym (any_parts (overlap c.args.a) c.args.d.now.regions c.args.d.now.partitions)

pub returns-else-meets : goal.returns-else-meets
returns-else-meets c =
    or_else _ _ _ c.meets.ensures c.if-meets.false _ c.meets-else-meets.ensures
    ∙ sym (any_parts (overlap c.args.a) c.args.d.now.regions c.args.d.now.partitions)

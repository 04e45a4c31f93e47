-- Those of the regions, and those of the partitions. Assumes nothing.
use Rattle.manager.specs.Sound.{sound_names}
use Rattle.objects.proofs.Pairs.{and_then, and_not}
use Rattle.objects.proofs.found.names_differ.Goals as goal

pub returns-then-differ : goal.returns-then-differ
unfolding sound_names
returns-then-differ c = and_then _ _ _ c.differ.ensures c.if-differ.true _ c.differ-then-differ.ensures

pub returns-else-differ : goal.returns-else-differ
unfolding sound_names
returns-else-differ c = and_not _ _ _ c.differ.ensures c.if-differ.false

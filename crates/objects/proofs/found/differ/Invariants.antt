use Rattle.manager.specs.Record.{slots}
use Rattle.manager.specs.Lists.{pairwise}
use Rattle.manager.specs.Sound.{other_name}
use Rattle.manager.proofs.Laws.Lists.{Pairing}
use Rattle.objects.proofs.found.differ.Given as goal

abbrev pub invariant-loop-i : goal.invariant-loop-i
invariant-loop-i g l =
    let differ = other_name g.T.Slot.name in
    let all = g.T.Slot.slots_of l.d in
    Pairing differ all slots (pairwise differ all) l.i

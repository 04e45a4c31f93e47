-- The generation is small enough that the id fits. Assumes nothing.
use Rattle.objects.proofs.Laws.{id_of_fits}
use Rattle.objects.proofs.found.id_at.Goals as goal

pub overflow_cast-result : goal.overflow_cast-result
overflow_cast-result g c =
    let s = g.T.Slot in
    id_of_fits s.generation (s.emptied 0) c.slots.ensures.these c.slots.ensures.all c.requires.within c.index-slots-slot.is c.generation.ensures c.requires.generation c.id_of.ensures

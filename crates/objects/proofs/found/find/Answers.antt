-- What is in the slot of an id is it, where it has that id. Assumes nothing.
use Rattle.objects.proofs.Slots.{live_beyond, live_there}
use Rattle.objects.proofs.found.find.Goals as goal

pub returns-in_err-x : goal.returns-in_err-x
returns-in_err-x g c =
    let s = g.T.Slot in
    live_beyond s.name s.generation (s.emptied 0) _ _ c.slots.ensures.these _ _ (g.met.T.Slot.unnamed 0) c.slot_of.ensures _ c.from_residual.ensures c.in_err-x.ensures.lookup.3

pub returns : goal.returns
returns g c =
    let s = g.T.Slot in
    let h = c.in_ok-x.ensures.lookup in
    live_there s.name s.generation (s.emptied 0) _ _ c.slots.ensures.these _ _ (g.met.T.Slot.unnamed 0) c.slot_of.ensures _ (h.3.1 _) _ c.has_id.ensures _ c.then_some.ensures

-- Each slot passes the test. Assumes nothing.
use Rattle.std.proofs.Common.{Bool, ◌&&◌, cond, eqb, rules, tests}
use Rattle.manager.specs.Sound.{sound_generation}
use Rattle.manager.proofs.Laws.Chains.{every_from_all}
use Rattle.soundness.proofs.slots.sound_slots.Goals as goal

pub returns : goal.returns
returns g c =
    let t : g.row.T.Denot → Bool = λ x. sound_generation (g.T.Slot.name x) (g.T.Slot.generation x)
    && cond (eqb (g.T.Slot.name x) 0) (g.T.Checked.empty x) (g.T.Checked.live c.args.mem.now x) in
    every_from_all t c.args.all.now _ _ _ c.all.ensures.ran c.iter.ensures.rest (λ x b q k. search (rules, tests))

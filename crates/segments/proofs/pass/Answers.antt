-- `pass`: after a tick every region's queue can be served. Assumes nothing.
use Rattle.std.proofs.Common.{arith, true, ◌≡◌}
use Rattle.manager.specs.Sound.{sound}
use Rattle.segments.proofs.Clock.{tick_sites, tick_ready}
use Rattle.segments.proofs.pass.Goals as goal

pub serve_all-requires : goal.serve_all-requires
serve_all-requires c =
    let s : sound c.args.mem.now c.args.told.now.manager ≡ true = grind arith in
    let x = c.after_tick.ensures in
    (tick_sites _ _ s _ x c.requires.slots, tick_ready _ _ s _ x c.requires.places)

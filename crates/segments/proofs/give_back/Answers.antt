-- `give_back`: the region stays a live one, and its queue can be served. Assumes nothing.
use Rattle.std.proofs.Common.{arith, true, ◌≡◌}
use Rattle.manager.specs.Sound.{sound}
use Rattle.segments.proofs.Serve.{fresh_ready}
use Rattle.segments.proofs.give_back.Goals as goal

pub serve-requires : goal.serve-requires
serve-requires c =
    let s : sound c.args.mem.now c.args.told.now.manager ≡ true = grind arith in
    let h = c.in_ok-h.ensures.holds in
    (c.release_pages.ensures.sited, h.region, fresh_ready _ _ s c.requires)

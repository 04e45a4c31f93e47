-- `release` meets its contract, by recursion on the block, whose length falls: a block that is held whole is free, and of one that is cut the
-- half with the page is released and put together with the other. Assumes nothing.
use Rattle.std.proofs.Common.{arith}
use Rattle.segments.proofs.Blocks.Release.{Freed, twice, lent_low, lent_high, freed_low, freed_high}
use Rattle.segments.proofs.halves.+release.Goals as goal
use Rattle.segments.proofs.halves.+release.Goals.{else-p-half, then-p-half}

pub release-requires : goal.release-requires
release-requires t c =
    let l = lent_low c.requires c.if-map-all.false c.if-p-half.true in
    (omega (arith, l.long, twice c.requires c.if-map-all.false), l.holds)

pub release-requires-else-p-half : goal.release-requires-else-p-half
release-requires-else-p-half t c =
    let l = lent_high c.requires c.if-map-all.false c.if-p-half.false in
    (omega (arith, l.long, twice c.requires c.if-map-all.false), l.holds)

pub join-requires-clause-both_tiled : goal.join-requires-clause-both_tiled
join-requires-clause-both_tiled t c =
    let f : Freed c.args.p c.args.map.now c.if-p-half.map =
    elim c.if-p-half.branch [
      | then-p-half w ↦ rw w.map-is (freed_low c.requires c.if-map-all.false w.if-p-half.true _ w.release.ensures)
      | else-p-half w ↦ rw w.map-is (freed_high c.requires c.if-map-all.false w.if-p-half.false _ w.release-else-p-half.ensures)
    ] in
    (f.low, f.high)

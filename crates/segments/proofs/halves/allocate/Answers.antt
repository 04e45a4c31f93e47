-- `allocate` meets its contract: the words of the block that is found are lent, and the block is cut. Assumes nothing.
use Rattle.std.proofs.Common.{arith}
use Rattle.manager.proofs.Laws.Map.{sound_tiled}
use Rattle.segments.proofs.Blocks.Take.{untaken, took}
use Rattle.segments.proofs.halves.allocate.Goals as goal

pub smallest-requires : goal.smallest-requires
smallest-requires c = sound_tiled _ _ c.requires.sound.sound

pub returns-in_err-block : goal.returns-in_err-block
returns-in_err-block c = rw c.from_residual.ensures (untaken _ c.args.n c.requires.sound.sound c.in_err-block.ensures)

pub carve-requires : goal.carve-requires
carve-requires c =
    let t = took _ c.args.n c.requires.sound.sound c.requires.some _ c.in_ok-block.ensures in
    record { block = (t.blank.power, omega (arith, t.long, c.in_ok-block.ensures.within), c.requires.some); blank = t.blank.zeros }

pub returns : goal.returns
returns c = (c.in_ok-block.ensures.place, (took _ c.args.n c.requires.sound.sound c.requires.some _ c.in_ok-block.ensures).words _ c.carve.ensures)

-- `release` meets its contract by the laws of Release. One bound is that of a slice with a word written. Assumes nothing.
use Rattle.std.proofs.Common.{arith, length-set}
use Rattle.segments.proofs.Release.{held_in}
use Rattle.segments.proofs.pages.release.Goals as goal

pub bounds-map-p : goal.bounds-map-p
bounds-map-p c = simp length-set (omega (arith, held_in c.requires.at c.requires.reach))

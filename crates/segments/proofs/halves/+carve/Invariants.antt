use lib.ListN.{length}
use Rattle.segments.proofs.halves.+carve.Given as goal

abbrev pub decreases-carve : goal.decreases-carve
decreases-carve l = length l.map.now

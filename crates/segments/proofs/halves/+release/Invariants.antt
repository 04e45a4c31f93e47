use lib.ListN.{length}
use Rattle.segments.proofs.halves.+release.Given as goal

abbrev pub decreases-release : goal.decreases-release
decreases-release l = length l.map.now

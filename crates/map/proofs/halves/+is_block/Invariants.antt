use lib.ListN.{length}
use Rattle.map.proofs.halves.+is_block.Given as goal

abbrev pub decreases-is_block : goal.decreases-is_block
decreases-is_block l = length l.map.now

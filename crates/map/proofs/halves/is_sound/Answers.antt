-- `halves::is_sound` meets its contract: a sound map has a power of two of words. Assumes nothing.
use Rattle.arith.proofs.Doubling.{next_is_up}
use Rattle.map.proofs.Block.{map_power, map_uneven}
use Rattle.map.proofs.halves.is_sound.Goals as goal

pub is_block-requires : goal.is_block-requires
is_block-requires c =
    let e = c.next_power_of_two.ensures in
    map_power _ _ (next_is_up _ _ e.power e.lower_bound e.upper_bound) c.if-next_power_of_two-n.true

pub returns-else-next_power_of_two-n : goal.returns-else-next_power_of_two-n
returns-else-next_power_of_two-n c =
    let e = c.next_power_of_two.ensures in
    map_uneven _ _ (next_is_up _ _ e.power e.lower_bound e.upper_bound) c.if-next_power_of_two-n.false

-- `clear_map`: the map's part is lent, and what is put back is drawn in its place. Assumes nothing.
use Rattle.std.proofs.Common.{rules}
use Rattle.regions.proofs.Clear.{opening, opens}
use Rattle.regions.proofs.create.clear_map.Goals as goal

pub slice_bounds-clear-end : goal.slice_bounds-clear-end
slice_bounds-clear-end c = search (rules, opening)

pub returns : goal.returns
returns c = search (rules, opens)

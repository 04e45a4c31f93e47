-- `take_pages` meets its contract: what is put back is drawn in the map's place. Assumes nothing.
use borrow.Author.Rules.{rules}
use Rattle.segments.proofs.Lend.{drawing}
use Rattle.segments.proofs.lending.take_pages.Goals as goal

pub returns : goal.returns
returns c = search (rules, drawing)

-- `layout_by_halves` meets its contract: the largest power of two at or below the page count is the page count by halves. Assumes nothing.
use borrow.Author.Rules.{rules}
use Rattle.arith.proofs.Doubling.{below_fits, layout_halves}
use Rattle.arith.proofs.layout_by_halves.Goals as goal

pub overflow_cast-n : goal.overflow_cast-n
overflow_cast-n c = search (rules, below_fits)

pub returns : goal.returns
returns c = search (rules, layout_halves)

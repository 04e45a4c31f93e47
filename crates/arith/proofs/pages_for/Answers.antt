-- `pages_for` meets its contract: there are never more pages than bytes, so the quotient fits 32 bits again. Assumes nothing.
use Rattle.arith.proofs.Laws.Round.{pages_under}
use native.Mathlib.Omega.{arith}
use Rattle.arith.proofs.pages_for.Goals as goal

pub overflow_cast-result : goal.overflow_cast-result
overflow_cast-result c = omega (arith, c.multiples.ensures, pages_under c.args.bytes c.args.page)

pub returns : goal.returns
returns c = c.multiples.ensures

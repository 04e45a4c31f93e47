-- `round_up` meets its contract: the product is at most x + (p - 1), so nothing wraps. Assumes nothing.
use Rattle.arith.proofs.Laws.Round.{round_is, multiples_under}
use native.Mathlib.Omega.{arith}
use Rattle.arith.proofs.round_up.Goals as goal

pub overflow_mul-result : goal.overflow_mul-result
overflow_mul-result c = omega (arith, multiples_under c.args.x c.args.p c.multiples.result c.multiples.ensures)

pub returns : goal.returns
returns c = round_is c.args.x c.args.p c.multiples.result c.multiples.ensures

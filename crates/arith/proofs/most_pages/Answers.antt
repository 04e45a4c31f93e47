-- `most_pages` meets its contract: the quotient is at most the length, so it fits 32 bits again. Assumes nothing.
use Prim.Native.Nat.{◌+◌}
use mathlib.Core.Path.{sym}
use native.Mathlib.Nat.{div-le_self}
use native.Mathlib.Omega.{arith}
use Rattle.arith.proofs.Laws.Layout.{most_zero, most_is}
use Rattle.arith.proofs.most_pages.Goals as goal

pub returns-then-page-eq0 : goal.returns-then-page-eq0
returns-then-page-eq0 c = sym (most_zero c.args.length c.args.page c.if-page-eq0.true)

pub overflow_cast-result-3 : goal.overflow_cast-result-3
overflow_cast-result-3 c = omega (arith, div-le_self c.args.length (c.args.page + 4))

pub returns : goal.returns
returns c = sym (most_is c.args.length c.args.page (omega arith))

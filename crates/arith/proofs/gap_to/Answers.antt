-- `gap_to` meets its contract: a number that is no multiple lacks what it is over the one before. Assumes nothing.
use mathlib.Core.Path.{sym}
use native.Mathlib.Omega.{arith}
use native.Mathlib.Nat.{mod-lt, pos_of_ne-zero}
use Rattle.arith.proofs.Laws.Round.{gap_zero, gap_none, gap_over}
use Rattle.arith.proofs.gap_to.Goals as goal

pub returns-then-every-eq0 : goal.returns-then-every-eq0
returns-then-every-eq0 c = sym (gap_zero _ _ c.if-every-eq0.true)

pub returns-then-over-eq0 : goal.returns-then-over-eq0
returns-then-over-eq0 c = sym (gap_none _ _ c.if-over-eq0.true)

pub overflow_sub-result : goal.overflow_sub-result
overflow_sub-result c = omega (arith, mod-lt c.args.x (pos_of_ne-zero c.if-every-eq0.false))

pub returns : goal.returns
returns c = sym (gap_over _ _ (pos_of_ne-zero c.if-every-eq0.false) c.if-over-eq0.false)

-- `power_down` meets its contract: two to the logarithm is the largest power at or below a number. Assumes nothing.
use native.Mathlib.Omega.{arith}
use Rattle.arith.proofs.Doubling.{below_none, log_is_down}
use Rattle.arith.proofs.power_down.Goals as goal

pub returns-then-most-eq0 : goal.returns-then-most-eq0
returns-then-most-eq0 c = below_none _ c.if-most-eq0.true

pub returns : goal.returns
returns c =
    let e = c.ilog2.ensures in
    omega (arith, log_is_down _ _ e.power_le e.next_power_gt, e.power_le, c.ranges.most.fits)

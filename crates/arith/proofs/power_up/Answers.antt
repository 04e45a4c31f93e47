-- `power_up` meets its contract: the next power of two is the least at or above k. Assumes nothing.
use mathlib.Core.Path.{ap, ◌∙◌}
use native.Mathlib.Omega.{arith}
use Rattle.arith.specs.Power.{power_up}
use Rattle.arith.proofs.Doubling.{next_is_up}
use Rattle.arith.proofs.power_up.Goals as goal

pub returns : goal.returns
returns c = next_is_up _ _ c.next_power_of_two.ensures.power c.next_power_of_two.ensures.lower_bound c.next_power_of_two.ensures.upper_bound ∙ ap power_up (omega (arith, c.from.ensures))

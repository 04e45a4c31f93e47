use mathlib.Core.Path.{◌≡◌}
use Rattle.queue.proofs.Ticks.{Ticking}
use Rattle.queue.proofs.after_tick.Given as goal

abbrev pub invariant-loop-x : goal.invariant-loop-x
invariant-loop-x l = Ticking l.x-items l.kept l.told.notices l.k l.told.count l.x-index × (l.told.manager ≡ l.fn.d)

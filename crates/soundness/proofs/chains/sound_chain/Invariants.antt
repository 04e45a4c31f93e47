use Rattle.std.proofs.Common.{◌-◌}
use Rattle.manager.specs.Partition.{sound_chain}
use Rattle.soundness.proofs.Chain.{Walking}
use Rattle.soundness.proofs.chains.sound_chain.Given as goal

abbrev pub invariant-loop : goal.invariant-loop
invariant-loop l = Walking l.mem l.p (sound_chain l.mem l.p) (l.end - l.counter) l.before l.a

use Rattle.manager.specs.Sound.{sound_queue}
use Rattle.soundness.specs.Waiters.{queue_of}
use Rattle.soundness.proofs.Queue.{Walk}
use Rattle.soundness.proofs.places.sound_queue.Given as goal

abbrev pub invariant-loop-i : goal.invariant-loop-i
invariant-loop-i l = Walk l.mem l.regions l.ws l.kept l.before l.seen (sound_queue l.mem (queue_of l.regions l.ws)) l.i

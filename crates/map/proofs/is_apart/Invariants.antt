use Rattle.manager.specs.Map.{sound_map}
use Rattle.manager.specs.Paged.{apart}
use Rattle.map.proofs.Check.{Checking}
use Rattle.map.proofs.is_apart.Given as goal

abbrev pub invariant-loop-w : goal.invariant-loop-w
invariant-loop-w l = Checking l.map (sound_map apart l.map) l.w-index l.due l.before

use Rattle.std.proofs.Common.{◌≡◌, [], take, drop, map}
use Rattle.script.specs.Shown.{key_shown}
use Rattle.script.specs.Reading.{numbers_from}
use Rattle.script.proofs.read_fields.Given as goal

abbrev pub invariant-loop-i : goal.invariant-loop-i
invariant-loop-i l = numbers_from l.src [] l.at (map key_shown l.keys) ≡ numbers_from l.src (take l.i l.out) l.next (drop l.i (map key_shown l.keys))

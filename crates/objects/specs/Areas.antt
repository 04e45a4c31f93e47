-- The area of an empty slot, which has no start and no byte and so meets none. Assumes nothing.
use Rattle.std.specs.Prelude.{Bool, ◌&&◌, eqb}
use Rattle.manager.specs.declared.Area.{Area}

abbrev pub nowhere : Area → Bool
nowhere a = eqb a.start 0 && eqb a.length 0

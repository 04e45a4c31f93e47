-- What an information comes to. Assumes nothing.
use Rattle.std.specs.Prelude.{ℕ, List, Ok, Err}
use Rattle.std.specs.declared.result.Result.{Result}
use Rattle.manager.specs.Result.{Result as Left, refused}
use Rattle.manager.specs.Regions.{informed}
use Rattle.manager.specs.declared.Manager.{Manager}
use Rattle.manager.specs.declared.Information.{Information}
use Rattle.manager.specs.declared.Status.{Status}

abbrev pub told : List ℕ → Manager → Result Information Status → Left
told m d (Ok i) = informed m d i
told m d (Err s) = refused m d s

-- A text as its bytes, so that definitions can name keys and calls as the rules do. Assumes nothing.
use Rattle.std.specs.Prelude.{ℕ, List, [] as nil, ◌∷◌ as ◌then◌}
use Prim.Native.Char.{code}
use Prim.Native.String.{String, [], ◌∷◌}

abbrev pub bytes : String → List ℕ
bytes [] = nil
bytes (c ∷ s) = code c then bytes s

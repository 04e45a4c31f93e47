-- The written form of a script: each call as its line and a line for each of its keys. Assumes nothing.
use Rattle.std.specs.Prelude.{ℕ, ◌≤◌, List, [], ◌∷◌, ◌++◌}
use Rattle.text.specs.Decimal.{line_of}
use Rattle.manager.specs.declared.Call.{Call}
use Rattle.script.specs.Table.{Key, row_of, arguments_of}

-- a line for each key, with its number
unfoldable pub write_fields : List Key → List ℕ → List ℕ
write_fields [] vs = []
write_fields (k ∷ ks) [] = []
write_fields (k ∷ ks) (v ∷ vs) = line_of k.text v ++ write_fields ks vs

unfoldable pub write : Call → List ℕ
write c = (row_of c).line ++ write_fields (row_of c).keys (arguments_of c)

unfoldable pub write_all : List Call → List ℕ
write_all [] = []
write_all (c ∷ cs) = write c ++ write_all cs

-- as many numbers as keys, each at most its key's largest
unfoldable pub Fit : List Key → List ℕ → Type 0
Fit [] [] = Unit {0}
Fit [] (v ∷ vs) = ⊥
Fit (k ∷ ks) [] = ⊥
Fit (k ∷ ks) (v ∷ vs) = (v ≤ k.most) × Fit ks vs

unfoldable pub FitAll : List Call → Type 0
FitAll [] = Unit {0}
FitAll (c ∷ cs) = Fit (row_of c).keys (arguments_of c) × FitAll cs

-- The part of the memory that is a map. Assumes nothing.
use Prim.Native.Nat.{ℕ, ◌+◌, ◌-◌}
use mathlib.Core.Path.{◌≡◌, ap}
use mathlib.Core.List.{List}
use native.Mathlib.Omega.{arith}
use lib.ListN.{take, drop}
use Rattle.arith.specs.declared.Layout.{Layout}
use Rattle.manager.specs.Region.{words_at}

-- the words of a map that ends within the memory
pub words_whole : (m : List ℕ) (l : Layout) → take (l.map + l.pages - l.map) (drop l.map m) ≡ words_at m l
words_whole m l = let e : l.map + l.pages - l.map ≡ l.pages = omega arith in ap (λ (k : ℕ). take k (drop l.map m)) e

-- What the private functions on a region's pages in the memory do. Assumes nothing.
use Rattle.std.specs.Prelude.{ℕ, ◌≤◌, ◌≡◌, List, Option, Some}
use Rattle.manager.specs.Region.{address_of, changed, placed, taken}
use Rattle.manager.specs.Sound.{Sited}
use Rattle.manager.specs.declared.Region.{Region}
use Rattle.manager.specs.declared.Need.{Need}

-- the held segment at an address has k pages from now on (0: it is returned), and the region stays a live one
pub record Changes (r : Region) (address k : ℕ) (m out : List ℕ) : Type 0 where
  pub memory : out ≡ changed m r address k
  pub sited : Sited out r

-- the pages of a need are taken, where there is room, and start at an address below 65,536
pub record Takes (r : Region) (n : Need) (m out : List ℕ) (p : Option ℕ) : Type 0 where
  pub place : p ≡ placed m r n
  pub within : (i : ℕ) → p ≡ Some i → address_of r i ≤ 65536
  pub memory : out ≡ taken m r n
  pub sited : Sited out r

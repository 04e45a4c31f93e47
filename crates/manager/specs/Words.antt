-- Which words of a memory a change leaves as they were. Assumes nothing.
use Rattle.std.specs.Prelude.{ℕ, ◌+◌, ◌≤◌, ◌<◌, ◌≡◌, List, length, get_or}
use Rattle.manager.specs.Region.{pages_of, map_at}
use Rattle.manager.specs.declared.Region.{Region}

-- word j is one of the n words from b on
abbrev pub OneOf : ℕ → ℕ → ℕ → Type 0
OneOf b n j = (b ≤ j) × (j < b + n)

-- a word of a region's map
abbrev pub MapWord : Region → ℕ → Type 0
MapWord r j = OneOf (map_at r) (pages_of r) j

-- a memory keeps its length, and every word but those of W
pub record Only (W : ℕ → Type 0) (m m' : List ℕ) : Type 0 where
  pub size : length m' ≡ length m
  pub same : (j : ℕ) → ¬ W j → get_or m' j 0 ≡ get_or m j 0

-- The segments of a map, counted and in pages. Assumes nothing.
use Rattle.std.specs.Prelude.{ℕ, ◌+◌, ◌≤◌, max, List, length}
use Rattle.manager.specs.Map.{largest_of, sum_of}
use Rattle.regions.specs.declared.tally.Tally.{Tally}

-- segments of these sizes
abbrev pub tally_of : List ℕ → Tally
tally_of sizes = record { count = length sizes; largest = largest_of sizes; total = sum_of sizes }

-- with a segment more
abbrev pub with_segment : Tally → ℕ → Tally
with_segment t n = record { count = t.count + 1; largest = max t.largest n; total = t.total + n }

-- no number of pages is above a map's length
pub record Small (t : Tally) : Type 0 where
  pub largest : t.largest ≤ 16384
  pub total : t.total ≤ 16384

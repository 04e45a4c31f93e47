-- `carve` meets its contract, by recursion on the block, whose length falls: a block that is small enough is held, and of a larger one the
-- high half is free and the low half goes on. Assumes nothing.
use native.Mathlib.Omega.{arith}
use Prim.Native.Nat.{ℕ, ◌-◌, ◌≤◌}
use mathlib.Core.Path.{◌≡◌}
use mathlib.Core.Bool.{true}
use mathlib.Core.List.{List}
use lib.ListN.{length, length-set, drop, replicate}
use Rattle.arith.specs.Power.{is_power}
use Rattle.segments.proofs.Blocks.Carve.{Blank, has_pages, carve_last, part_long, part_blank, carve_on, carve_long}
use Rattle.segments.proofs.halves.+carve.Goals as goal

-- the block at entry
blank : (map : List ℕ) (k : ℕ) → (is_power (length map) ≡ true) × (length map ≤ 16384) × (1 ≤ k) → drop 1 map ≡ replicate (length map - 1) 0 → Blank map k
blank map k p z = record { power = p.0; zeros = z; some = p.2 }

pub bounds-map-0 : goal.bounds-map-0
bounds-map-0 t c = has_pages (blank _ _ c.requires.block c.requires.blank)

pub returns-then-n-k : goal.returns-then-n-k
returns-then-n-k t c = carve_last (blank _ _ c.requires.block c.requires.blank) c.if-n-k.true

pub slice_bounds-carve-end : goal.slice_bounds-carve-end
slice_bounds-carve-end t c = simp length-set (omega arith)

pub carve-requires : goal.carve-requires
carve-requires t c =
    let l = c.if-n-k.false in
    let b = part_blank (blank _ _ c.requires.block c.requires.blank) l in
    let n = part_long (blank _ _ c.requires.block c.requires.blank) l in
    (omega (arith, n), ((b.power, omega (arith, c.requires.block.1, n), b.some), b.zeros))

pub shape_of-map : goal.shape_of-map
shape_of-map t c =
    carve_long (blank _ _ c.requires.block c.requires.blank) c.if-n-k.false _ c.carve.ensures

pub returns : goal.returns
returns t c =
    carve_on (blank _ _ c.requires.block c.requires.blank) c.if-n-k.false _ c.carve.ensures

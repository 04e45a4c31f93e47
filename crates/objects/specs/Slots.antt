-- The objects of a kind in the record, and what a search of its slots finds. Assumes nothing.
use Rattle.std.specs.Prelude.{ℕ, cond, eqb, ltb}
use Rattle.std.specs.declared.option.Option.{Option}
use Rattle.std.specs.declared.option.Option.TheVariants.{None, Some}

-- an object, where it has a name
abbrev pub live : {A : Type 0} → (A → ℕ) → A → Option A
live name x = cond (eqb (name x) 0) None (Some x)

-- a place, where it is one of so many
abbrev pub below : ℕ → ℕ → Option ℕ
below n i = cond (ltb i n) (Some i) None

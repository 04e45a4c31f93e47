-- What a list of checks comes to: the status of the first that fails, or nothing against it. Assumes nothing.
use Rattle.std.specs.Prelude.{cond, not, ℕ, List, [], ◌∷◌, Ok, Err}
use Rattle.std.specs.declared.result.Result.{Result}
use Rattle.arith.specs.declared.Layout.{Layout}
use Rattle.manager.specs.Result.{Check, check}
use Rattle.manager.specs.Region.{kind, is_alignment, servable_at}
use Rattle.manager.specs.declared.Need.{Need}
use Rattle.manager.specs.declared.Region.{Region}
use Rattle.manager.specs.declared.Status.{Status}
use Rattle.manager.specs.declared.Status.TheVariants.{InvalidSize, NotDefined}

unfoldable pub verdict_of : List Check → Result (Unit {0}) Status
verdict_of [] = Ok tt
verdict_of (c ∷ cs) = cond c.fails (Err c.status) (verdict_of cs)

-- the checks of a get by the region that it names, as `get_segment` has them, over that region's layout
abbrev pub ask_checks : Region → Layout → Need → ℕ → List Check
ask_checks r l n alignment =
    check (not ((kind r).aligns alignment)) NotDefined
    ∷ check (not (is_alignment r.page alignment)) InvalidSize
    ∷ check (not (servable_at (kind r) l n)) InvalidSize
    ∷ []

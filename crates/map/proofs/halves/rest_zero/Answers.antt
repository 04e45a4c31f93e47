-- `rest_zero` meets its contract: every word behind the first is compared. Assumes nothing.
use Rattle.std.proofs.Common.{rules, tests, arith, ◌-◌}
use mathlib.Core.Path.{◌∙◌}
use lib.ListN.{length, drop, length-drop}
use lib.Seq.{take_all}
use lib.Dec.{eqb}
use Rattle.manager.proofs.Laws.Chains.{every_from_all}
use Rattle.map.proofs.halves.rest_zero.Goals as goal

pub returns : goal.returns
returns c =
    let ws = c.args.map.now in
    let behind = c.iter.ensures.rest ∙ take_all (length ws - 1) (drop 1 ws) (omega (arith, length-drop 1 ws)) in
    every_from_all (λ w. eqb w 0) (drop 1 ws) _ _ c.all.result c.all.ensures.ran behind (λ x b q k. search (rules, tests))

-- The position of the first that passes the test. Assumes nothing.
use Rattle.std.proofs.Common.{Bool, rules, tests, eqb}
use Rattle.manager.proofs.Laws.Chains.{index_from_position}
use Rattle.objects.proofs.found.first_named.Goals as goal

pub returns : goal.returns
returns g c =
    let t : g.row.T.Denot → Bool = λ x. eqb (g.T.Slot.name x) c.args.name in
    index_from_position t _ _ _ _ c.position.ensures.ran c.iter.ensures.rest (λ x b q k. search (rules, tests))

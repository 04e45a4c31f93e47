-- Whether one passes the test. Assumes nothing.
use Rattle.std.proofs.Common.{Bool, eqb, rules, tests}
use Rattle.manager.proofs.Laws.Chains.{any_from_any}
use Rattle.objects.proofs.found.has_name.Goals as goal

pub returns : goal.returns
returns g c =
    let t : g.row.T.Denot → Bool = λ x. eqb c.args.name (g.T.Slot.name x) in
    any_from_any t _ _ _ _ c.any.ensures.ran c.iter.ensures.rest (λ x b q k. search (rules, tests))

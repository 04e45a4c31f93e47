-- An area that is nowhere meets none. Assumes nothing.
use Rattle.std.proofs.Common.{Bool, sym, ◌∙◌, rules, tests}
use Rattle.manager.specs.Region.{overlap}
use Rattle.manager.proofs.Laws.Chains.{any_from_any}
use Rattle.objects.proofs.Pairs.{none_any, nowhere_meets}
use Rattle.objects.proofs.areas.meets.Goals as goal

pub returns-then-not-is_nowhere : goal.returns-then-not-is_nowhere
returns-then-not-is_nowhere g c =
    let t : g.row.T.Denot → Bool = λ x. overlap c.args.a (g.T.Slot.area x) in
    any_from_any t _ _ _ _ c.any.ensures.ran c.iter.ensures.rest (λ x b q k. search (rules, tests))

pub returns-else-not-is_nowhere : goal.returns-else-not-is_nowhere
returns-else-not-is_nowhere g c =
    let t : g.row.T.Denot → Bool = λ x. overlap c.args.a (g.T.Slot.area x) in
    rw c.if-not-is_nowhere.false
    (sym (none_any t (λ x. nowhere_meets c.args.a (sym c.is_nowhere.ensures ∙ c.if-not-is_nowhere.false) (g.T.Slot.area x)) c.args.all.now))

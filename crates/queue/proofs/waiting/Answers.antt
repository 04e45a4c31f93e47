-- Whether one passes the test. Assumes nothing.
use Rattle.std.proofs.Common.{Bool, eqb, rules, tests}
use Rattle.manager.specs.declared.Waiter.{Waiter}
use Rattle.manager.proofs.Laws.Chains.{any_from_any}
use Rattle.queue.proofs.waiting.Goals as goal

pub returns : goal.returns
returns c =
    let t : Waiter → Bool = λ w. eqb w.task c.args.task in
    any_from_any t c.args.d.now.waiters _ _ _ c.any.ensures.ran c.iter.ensures.rest (λ x b q k. search (rules, tests))

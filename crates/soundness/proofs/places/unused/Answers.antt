-- Each place passes the test. Assumes nothing.
use Rattle.std.proofs.Common.{rules, tests}
use Rattle.manager.specs.Sound.{empty_waiter}
use Rattle.manager.proofs.Laws.Chains.{every_from_all}
use Rattle.soundness.proofs.places.unused.Goals as goal

pub returns : goal.returns
returns c =
    every_from_all empty_waiter c.args.ws.now _ _ _ c.all.ensures.ran c.iter.ensures.rest (λ x b q k. search (rules, tests))

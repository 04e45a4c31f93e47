-- The position of the first that passes the test. Assumes nothing.
use Rattle.std.proofs.Common.{rules, tests}
use Rattle.manager.specs.Queue.{goes_before}
use Rattle.manager.proofs.Laws.Chains.{index_from_position}
use Rattle.queue.proofs.Laws.{found_within}
use Rattle.queue.proofs.place_for.Goals as goal

pub returns : goal.returns
returns c =
    found_within _ _ _ _ c.told-ws
    (index_from_position (goes_before c.args.o c.args.w) c.args.ws.now _ _ _ c.position.ensures.ran c.iter.ensures.rest (λ x b q k. search (rules, tests)))

-- The position of the first that passes the test. Assumes nothing.
use Rattle.std.proofs.Common.{rules, tests, ◌≡◌, length}
use Rattle.manager.specs.Record.{tasks}
use Rattle.manager.specs.Queue.{waits_for}
use Rattle.manager.proofs.Laws.Chains.{index_from_position}
use Rattle.objects.proofs.Laws.{unmapped}
use Rattle.queue.proofs.Laws.{found_within}
use Rattle.queue.proofs.first_of.Goals as goal

pub returns : goal.returns
returns c =
    let size : length c.args.d.now.waiters ≡ tasks = search (rules, unmapped) in
    found_within _ _ _ _ size
    (index_from_position (waits_for c.args.id) c.args.d.now.waiters _ _ _ c.position.ensures.ran c.iter.ensures.rest (λ x b q k. search (rules, tests)))

-- Those behind the place go one place on. Assumes nothing.
use Rattle.std.proofs.Common.{rules, ◌≡◌, length}
use Rattle.manager.specs.Record.{tasks}
use Rattle.objects.proofs.Laws.{unmapped}
use Rattle.queue.proofs.Laws.{enqueued, enqueued_none}
use Rattle.queue.proofs.enqueue.Goals as goal

pub returns-in-Some : goal.returns-in-Some
returns-in-Some c =
    let size : length c.args.d.waiters ≡ tasks = search (rules, unmapped) in
    enqueued c.args.d size c.args.w _ c.order_of-o.ensures _ c.in-Some.ensures _ c.push.ensures

pub returns-in_default : goal.returns-in_default
returns-in_default c =
    let size : length c.args.d.waiters ≡ tasks = search (rules, unmapped) in
    enqueued_none c.args.d size c.args.w _ c.order_of-o.ensures c.in_default.ensures

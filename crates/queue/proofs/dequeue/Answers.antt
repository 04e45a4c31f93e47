-- Those behind a place go one place on. Assumes nothing.
use Rattle.std.proofs.Common.{rules, ◌≡◌, length}
use Rattle.manager.specs.Record.{tasks}
use Rattle.objects.proofs.Laws.{unmapped}
use Rattle.queue.proofs.Laws.{dequeued, dequeued_none}
use Rattle.queue.proofs.dequeue.Goals as goal

pub returns-then-i-lt-TASKS : goal.returns-then-i-lt-TASKS
returns-then-i-lt-TASKS c =
    let size : length c.args.d.waiters ≡ tasks = search (rules, unmapped) in
    dequeued c.args.d size c.args.i c.if-i-lt-TASKS.true _ c.pull.ensures

pub returns-else-i-lt-TASKS : goal.returns-else-i-lt-TASKS
returns-else-i-lt-TASKS c =
    let size : length c.args.d.waiters ≡ tasks = search (rules, unmapped) in
    dequeued_none c.args.d size c.args.i c.if-i-lt-TASKS.false

use Rattle.reply.specs.Notices.{told}
use Rattle.segments.specs.Serving.{used}
use Rattle.segments.proofs.Serve.{Serving}
use Rattle.segments.proofs.serving.serve.Given as goal

abbrev pub invariant-loop-i : goal.invariant-loop-i
invariant-loop-i l =
    let from = l.initial.told in
    Serving l.initial.mem l.id l.s.region from.manager (told from) from.count l.mem l.told.manager l.told.notices l.told.count

abbrev pub decreases-loop-i : goal.decreases-loop-i
decreases-loop-i l = used l.told.manager.waiters

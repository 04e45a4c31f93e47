-- `run::output::Writer::notices` meets its contract. The invariant: the notices before the next one are written. Assumes nothing.
use Rattle.std.proofs.Common.{arith}
use Rattle.run.proofs.Writing.{room_left, wrote_nothing, notice_unused, notice_used}
use Rattle.run.specs.Output.{notices_text}
use Rattle.run.proofs.output.Writer.notices.Goals.{then-n-ne0, else-n-ne0}
use Rattle.run.proofs.output.Writer.notices.Goals as goal

pub loop-n-init : goal.loop-n-init
unfolding notices_text
loop-n-init c = wrote_nothing _ _

pub notice-requires : goal.notice-requires
notice-requires c = room_left _ c.loop-n.invariant (omega arith) c.requires

pub loop-n-preserved : goal.loop-n-preserved
loop-n-preserved c =
    elim c.if-n-ne0.branch [
      | then-n-ne0 w ↦ rw w.self-is (notice_used _ _ (omega arith) c.loop-n.invariant w.if-n-ne0.true w.notice.ensures)
      | else-n-ne0 w ↦ rw w.self-is (notice_unused _ _ (omega arith) c.loop-n.invariant w.if-n-ne0.false)
    ]

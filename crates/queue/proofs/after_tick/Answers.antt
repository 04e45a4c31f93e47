-- Of the places before this one, those that stay and the notices of those that leave are in the arrays. Assumes nothing.
use Rattle.std.proofs.Common.{sym, ◌∙◌}
use borrow.Author.Tests.{eqb-true, eqb-false}
use Rattle.queue.proofs.Ticks.{tick_leave, tick_stay, tick_end}
use Rattle.queue.proofs.after_tick.Goals as goal
use Rattle.queue.proofs.after_tick.Goals.{then-times_out, else-times_out}

pub loop-x-preserved : goal.loop-x-preserved
loop-x-preserved c =
    let v = c.loop-x.invariant in
    elim c.if-times_out.branch [
      | then-times_out w ↦ (
        rw (w.kept-is, w.told-is, w.k-is, w.tell.ensures) (tick_leave _ _ _ _ _ _ v.0 c.loop-x-test.true (eqb-true _ _ (sym c.times_out.ensures ∙ w.if-times_out.true)) _ w.expired.ensures),
        rw (w.told-is, w.tell.ensures) v.1,
      )
      | else-times_out w ↦ (
        rw (w.kept-is, w.told-is, w.k-is) (tick_stay _ _ _ _ _ _ v.0 c.loop-x-test.true (eqb-false _ _ (sym c.times_out.ensures ∙ w.if-times_out.false)) _ w.aged.ensures),
        rw w.told-is v.1,
      )
    ]

pub returns : goal.returns
returns c =
    let v = c.loop-x.invariant in
    rw v.1 (tick_end c.args.d _ _ _ _ _ v.0 c.loop-x-test.false)

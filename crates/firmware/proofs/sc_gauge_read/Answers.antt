-- An alarm that is none is refused; else what the reading gave is left. Assumes nothing.
use Rattle.std.proofs.Common.{rules}
use Rattle.firmware.proofs.Gauge.{no_alarm, an_alarm, numbers_read}
use Rattle.firmware.proofs.sc_gauge_read.Goals as goal

pub returns-in_default : goal.returns-in_default
returns-in_default c = search (rules, no_alarm)

pub leave-requires : goal.leave-requires
leave-requires c = numbers_read c.args.words.now _ _ _ _ _ c.ranges.total c.gauge_at.ensures c.read-given.ensures

pub returns : goal.returns
returns c = an_alarm c.args.words.now _ _ _ _ _ _ _ c.in-Some.ensures _ c.gauge_at.ensures _ c.read-given.ensures _ _ _ c.leave.ensures

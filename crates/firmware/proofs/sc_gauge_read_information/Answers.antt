-- An alarm that is none and an answer that is too short are refused; else what the reading gave is left. Assumes nothing.
use Rattle.std.proofs.Common.{rules}
use Rattle.firmware.proofs.Gauge.{no_alarm_from, no_answer, an_answer, numbers_read_from}
use Rattle.firmware.proofs.sc_gauge_read_information.Goals as goal

pub returns-in_default : goal.returns-in_default
returns-in_default c = search (rules, no_alarm_from)

pub returns-in_default-information_at : goal.returns-in_default-information_at
returns-in_default-information_at c = search (rules, no_answer)

pub leave-requires : goal.leave-requires
leave-requires c =
    numbers_read_from c.args.words.now c.args.answer.now _ _ _ _ (c.type_inv.answer 3) (c.type_inv.answer 6) c.gauge_at.ensures c.in-Some-information_at.ensures c.read_information-given.ensures

pub returns : goal.returns
returns c =
    an_answer c.args.words.now _ _ _ _ c.args.answer.now _ c.in-Some.ensures _ c.in-Some-information_at.ensures _ c.gauge_at.ensures _ c.read_information-given.ensures _ _ _
    c.leave.ensures

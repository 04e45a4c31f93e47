-- Words that say no record are refused; else the words are written. Assumes nothing.
use Rattle.std.proofs.Common.{rules}
use Rattle.firmware.proofs.Laws.{write_none, write_some}
use Rattle.firmware.proofs.sc_segment_write.Goals as goal

pub returns-in_default : goal.returns-in_default
returns-in_default c = search (rules, write_none)

pub returns : goal.returns
returns c = write_some _ _ _ _ _ _ _ c.in-Some.ensures _ _ _ c.write_segment.ensures c.number-2.ensures

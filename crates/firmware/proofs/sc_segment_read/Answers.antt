-- Words that say no record give none; else the segment is copied. Assumes nothing.
use Rattle.firmware.proofs.Laws.{read_none, read_some}
use Rattle.firmware.proofs.sc_segment_read.Goals as goal

pub returns-in_default : goal.returns-in_default
returns-in_default c = read_none _ _ _ _ c.in_default.ensures _

pub returns : goal.returns
returns c = read_some _ _ _ _ _ c.in-Some.ensures _ _ _ c.read_segment-part.ensures c.copy.ensures

-- The value, the information and the notices, one behind the other. Assumes nothing.
use Rattle.std.proofs.Common.{rules}
use Rattle.firmware.proofs.Laws.{answering}
use Rattle.firmware.proofs.answer.put.Goals as goal

pub returns : goal.returns
returns c = search (rules, answering)

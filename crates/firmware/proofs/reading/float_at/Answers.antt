-- A pattern above infinity's is a NaN's; any other is read as it stands. Assumes nothing.
use Rattle.firmware.proofs.Gauge.{nan_read, number_read}
use Rattle.firmware.proofs.reading.float_at.Goals as goal

pub returns-then-bits-gt-INFINITY : goal.returns-then-bits-gt-INFINITY
returns-then-bits-gt-INFINITY c = nan_read _ c.if-bits-gt-INFINITY.true

pub float_from_bits-result : goal.float_from_bits-result
float_from_bits-result c = number_read _ c.if-bits-gt-INFINITY.false

-- `run::output::Writer::line` meets its contract: the key, the number and the newline one after another. Assumes nothing.
use Rattle.std.proofs.Common.{arith}
use Rattle.text.specs.Decimal.{line_of}
use Rattle.text.proofs.Digits.{length_decimal}
use Rattle.run.proofs.Writing.{wrote_append, wrote_most, room_left}
use Rattle.run.proofs.output.Writer.line.Goals as goal

pub number-requires : goal.number-requires
number-requires c = room_left _ c.text.ensures (omega (arith, length_decimal c.args.n (omega arith))) c.requires

pub byte-requires : goal.byte-requires
byte-requires c = room_left _ c.number.ensures (omega (arith, length_decimal c.args.n (omega arith))) (room_left 11 c.text.ensures (omega arith) c.requires)

pub returns : goal.returns
unfolding line_of
returns c = wrote_most (omega (arith, length_decimal c.args.n (omega arith))) (wrote_append c.text.ensures (wrote_append c.number.ensures c.byte.ensures))

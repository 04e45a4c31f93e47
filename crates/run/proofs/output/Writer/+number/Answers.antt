-- `run::output::Writer::number` meets its contract. The measure is the number. What stands for n / 10 is written first, and the last digit after
-- it. Assumes nothing.
use Rattle.std.proofs.Common.{arith, ◌≡◌, ◌%◌, length-append}
use Rattle.text.proofs.Digits.{decimal_small, decimal_big, length_small, length_big}
use Rattle.run.proofs.Writing.{wrote_append, room_left}
use Rattle.run.proofs.output.Writer.+number.Goals.{then-n-ge10, else-n-ge10}
use Rattle.run.proofs.output.Writer.+number.Goals as goal

pub number-requires : goal.number-requires
number-requires t c = (omega arith, omega (arith, length_big c.args.n c.if-n-ge10.true))

pub byte-requires : goal.byte-requires
byte-requires t c =
    elim c.if-n-ge10.branch [
      | then-n-ge10 w ↦ rw w.self-is (room_left 1 w.number.ensures (omega (arith, length_big c.args.n w.if-n-ge10.true)) c.requires)
      | else-n-ge10 w ↦ rw w.self-is (omega (arith, length_small c.args.n (omega arith)))
    ]

pub returns : goal.returns
returns t c =
    elim c.if-n-ge10.branch [
      | then-n-ge10 w ↦ rw (decimal_big c.args.n w.if-n-ge10.true, length-append) (wrote_append w.number.ensures (rw w.self-is at c.byte.ensures))
      | else-n-ge10 w ↦ let e : c.args.n % 10 ≡ c.args.n = omega arith in rw (decimal_small c.args.n (omega arith)) (rw (w.self-is, e) at c.byte.ensures)
    ]

-- `text::number` meets its contract. The invariant is `NumberLeft`: the number from the start is the number from the next byte on, read after
-- `n`. Assumes nothing.
use Rattle.std.proofs.Common.{arith, rules, sym, ◌∙◌}
use Rattle.text.proofs.Laws.{left_one, left_many, number_none, number_zero, number_bad, number_over, number_more, number_end}
use Rattle.text.proofs.number.Goals as goal

pub returns-then-is_empty : goal.returns-then-is_empty
returns-then-is_empty c = sym (number_none _ (grind arith))

pub returns-in-48 : goal.returns-in-48
returns-in-48 c = sym (search (rules, number_zero))

pub loop-b-init : goal.loop-b-init
loop-b-init c = search (rules, left_one, left_many)

pub returns-then-not-is_ascii_digit : goal.returns-then-not-is_ascii_digit
returns-then-not-is_ascii_digit c = number_bad c.loop-b.invariant c.loop-b-test.true c.if-not-is_ascii_digit.ensures.cases

pub returns-in_err-checked_mul : goal.returns-in_err-checked_mul
returns-in_err-checked_mul c =
    let o = c.in_err-checked_mul.ensures in
    c.from_residual.ensures ∙ number_over c.loop-b.invariant c.loop-b-test.true c.if-not-is_ascii_digit.ensures.cases (λ l. o (omega arith))

pub returns-in_err-n : goal.returns-in_err-n
returns-in_err-n c =
    let o = c.in_err-n.ensures in
    let e = c.in_ok-checked_mul.ensures.1 in
    let f = c.from.ensures in
    c.from_residual-in_err-n.ensures ∙ number_over c.loop-b.invariant c.loop-b-test.true c.if-not-is_ascii_digit.ensures.cases (λ l. o (omega arith))

pub loop-b-preserved : goal.loop-b-preserved
loop-b-preserved c =
    let o = c.in_ok-n.ensures in
    let e = c.in_ok-checked_mul.ensures.1 in
    let f = c.from.ensures in
    number_more c.loop-b.invariant c.loop-b-test.true c.if-not-is_ascii_digit.ensures.cases c.in_ok-n.n (omega arith) (omega arith)

pub returns : goal.returns
returns c = number_end c.loop-b.invariant (omega arith)

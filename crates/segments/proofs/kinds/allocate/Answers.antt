-- `allocate` meets its contract: what the kind's own function does is what the kind says. Assumes nothing.
use borrow.Author.Rules.{rules}
use borrow.Author.Tests.{not-true, not-false}
use Rattle.segments.proofs.Order.{kinds, halves_takes, page_fits, pages_takes}
use Rattle.segments.proofs.kinds.allocate.Goals as goal

pub allocate-requires : goal.allocate-requires
allocate-requires c = search (rules, kinds, not-true, not-false)

pub returns-then-not-by_halves : goal.returns-then-not-by_halves
returns-then-not-by_halves c =
    pages_takes c.args.o _ c.by_halves.ensures _ c.requires.sound.sound c.if-not-by_halves.true c.args.n c.args.first _ _ c.allocate.ensures

pub allocate-requires-2 : goal.allocate-requires-2
allocate-requires-2 c = search (rules, kinds, not-true, not-false)

pub returns-in_err-i : goal.returns-in_err-i
returns-in_err-i c =
    rw c.from_residual.ensures
    (halves_takes c.args.o _ c.by_halves.ensures _ c.requires.sound.sound c.if-not-by_halves.false c.args.n c.args.first _ _ c.in_err-i.ensures)

pub overflow_add-result : goal.overflow_add-result
overflow_add-result c =
    page_fits c.args.o _ c.by_halves.ensures _ c.requires.sound.sound c.if-not-by_halves.false
    c.args.n c.args.first _ c.in_ok-i.ensures.0 c.requires.some.1 c.requires.sound.short c.requires.some.0

pub returns : goal.returns
returns c = halves_takes c.args.o _ c.by_halves.ensures _ c.requires.sound.sound c.if-not-by_halves.false c.args.n c.args.first _ _ c.in_ok-i.ensures

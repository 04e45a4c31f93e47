-- `multiples` meets its contract: of 0 there are none. Assumes nothing.
use mathlib.Core.Path.{ap, sym, ◌∙◌}
use Rattle.std.proofs.Common.{ℕ, ◌+◌, ◌/◌, ◌%◌, min, arith}
use native.Mathlib.Nat.{pos_of_ne-zero}
use Rattle.arith.proofs.Laws.Round.{pages_zero, ceil_is_pages}
use Rattle.arith.proofs.multiples.Goals as goal

pub returns-then-p-eq0 : goal.returns-then-p-eq0
returns-then-p-eq0 c = sym (pages_zero c.args.x c.args.p c.if-p-eq0.true)

pub returns : goal.returns
returns c = ceil_is_pages c.args.x c.args.p _ (pos_of_ne-zero c.if-p-eq0.false) (c.div_ceil.ensures ∙ rw c.from.ensures (ap (λ (y : ℕ). y / c.args.p + min 1 (y % c.args.p)) (omega arith)))

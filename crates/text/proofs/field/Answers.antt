-- `text::field` meets its contract: at each `return` the calls and tests that led there say which case of `field_at` holds.
-- Assumes nothing.
use Rattle.std.proofs.Common.{rules, arith, ◌∙◌}
use Rattle.text.proofs.Laws.{line_within, field_never, field_key, field_fits, field_not, field_over, field_took}
use Rattle.text.proofs.field.Goals as goal

pub returns-in_err-e : goal.returns-in_err-e
returns-in_err-e c = search (rules, field_never)

pub slice_bounds-starts_with-count : goal.slice_bounds-starts_with-count
slice_bounds-starts_with-count c = (line_within _ _ _ c.in_ok-e.ensures).0

pub slice_bounds-starts_with-start : goal.slice_bounds-starts_with-start
slice_bounds-starts_with-start c = (line_within _ _ _ c.in_ok-e.ensures).0

pub slice_bounds-starts_with-end : goal.slice_bounds-starts_with-end
slice_bounds-starts_with-end c = let w = line_within _ _ _ c.in_ok-e.ensures in omega arith

pub returns-then-not-starts_with : goal.returns-then-not-starts_with
returns-then-not-starts_with c = search (rules, field_key)

pub overflow_add-at : goal.overflow_add-at
overflow_add-at c = let w = line_within _ _ _ c.in_ok-e.ensures in let f = field_fits _ _ _ c.args.most _ c.in_ok-e.ensures c.if-not-starts_with.ensures in omega arith

pub slice_bounds-number-count : goal.slice_bounds-number-count
slice_bounds-number-count c = field_fits _ _ _ c.args.most _ c.in_ok-e.ensures c.if-not-starts_with.ensures

pub slice_bounds-number-start : goal.slice_bounds-number-start
slice_bounds-number-start c = field_fits _ _ _ c.args.most _ c.in_ok-e.ensures c.if-not-starts_with.ensures

pub slice_bounds-number-end : goal.slice_bounds-number-end
slice_bounds-number-end c = let w = line_within _ _ _ c.in_ok-e.ensures in omega arith

pub returns-in_err-value : goal.returns-in_err-value
returns-in_err-value c = c.from_residual-in_err-value.ensures ∙ field_not _ _ _ _ _ c.in_ok-e.ensures c.if-not-starts_with.ensures c.in_err-value.ensures

pub returns-then-most-value : goal.returns-then-most-value
returns-then-most-value c = field_over _ _ _ _ _ c.in_ok-e.ensures c.if-not-starts_with.ensures _ c.in_ok-value.ensures c.if-most-value.true

pub overflow_add-result : goal.overflow_add-result
overflow_add-result c = let w = line_within _ _ _ c.in_ok-e.ensures in omega arith

pub returns : goal.returns
returns c = field_took _ _ _ _ _ c.in_ok-e.ensures c.if-not-starts_with.ensures _ c.in_ok-value.ensures c.if-most-value.false

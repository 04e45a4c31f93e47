-- `script::read_call` meets its contract: each `return` is a way through `read_call`. Assumes nothing.
use Rattle.std.proofs.Common.{arith, rules, sym, ◌∙◌, ◌≡◌, ap, refl, option_copied}
use Rattle.std.proofs.lemmas.Result.{err_from_is_err_and}
use Rattle.script.proofs.Laws.{read_end, answers_none, row_fits, row_few, answers_wrong, answers_call}
use Rattle.script.proofs.read_call.Goals as goal

pub returns-then-src-at : goal.returns-then-src-at
returns-then-src-at c = sym (read_end _ _ c.if-src-at.true)

pub returns-in_err-row : goal.returns-in_err-row
returns-in_err-row c =
    let p = err_from_is_err_and c.from_residual.result c.from_residual.ensures.1 in
    let z = c.in_err-row.ensures in
    let b : c.in_err-row.field-0.0.at ≡ c.args.at = grind arith in
    rw (p.1, p.2, b) (answers_none _ _ c.if-src-at.false _ c.rows.ensures _ refl (sym (ap option_copied z.ok_part) ∙ c.find_row.ensures))

pub overflow_add-at : goal.overflow_add-at
overflow_add-at c =
    let z = c.in_ok-row.ensures in
    let f = row_fits _ _ c.if-src-at.false _ c.rows.ensures _ refl c.in_ok-row.row.now (sym (ap option_copied z.ok_part) ∙ c.find_row.ensures) in
    omega arith

pub read_fields-requires : goal.read_fields-requires
read_fields-requires c =
    let z = c.in_ok-row.ensures in
    row_few _ _ c.if-src-at.false _ c.rows.ensures _ refl c.in_ok-row.row.now (sym (ap option_copied z.ok_part) ∙ c.find_row.ensures)

pub returns-in_err-next : goal.returns-in_err-next
returns-in_err-next c =
    let p = err_from_is_err_and c.from_residual-in_err-next.result c.from_residual-in_err-next.ensures.1 in
    let z = c.in_ok-row.ensures in
    rw (p.1, p.2)
    (answers_wrong _ _ c.if-src-at.false _ c.rows.ensures _ refl c.in_ok-row.row.now (sym (ap option_copied z.ok_part) ∙ c.find_row.ensures) _ _ c.read_fields.ensures _ c.in_err-next.was)

pub returns : goal.returns
returns c =
    let z = c.in_ok-row.ensures in
    answers_call _ _ c.if-src-at.false _ c.rows.ensures _ refl c.in_ok-row.row.now (sym (ap option_copied z.ok_part) ∙ c.find_row.ensures) _ _ c.read_fields.ensures _ _ c.in_ok-next.was (search rules) c.call.ensures

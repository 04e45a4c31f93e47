-- `script::read_fields` meets its contract. The invariant: what the lines from the start give is what those from `next` on give, after the
-- numbers in `out`. Assumes nothing.
use Rattle.std.proofs.Common.{arith, ◌≡◌, sym, ◌∙◌, length, add-one, take-suc-set}
use Rattle.std.proofs.lemmas.Result.{err_from_is_err_and}
use Rattle.script.specs.Reading.{key_at}
use Rattle.script.proofs.Laws.{fields_wrong, fields_more, fields_all}
use Rattle.script.proofs.read_fields.Goals as goal

pub returns-in_err-entry : goal.returns-in_err-entry
unfolding key_at
returns-in_err-entry c =
    let p = err_from_is_err_and c.from_residual.result c.from_residual.ensures.1 in
    let z = c.in_err-entry.ensures in
    let b : c.in_err-entry.field-0.0.at ≡ c.loop-i.next = grind arith in
    let f = c.field.ensures in
    rw (p.1, p.2, b) (fields_wrong _ _ _ _ c.args.keys.now c.loop-i.invariant c.loop-i-test.true _ (sym z.ok_part ∙ f))

pub loop-i-preserved : goal.loop-i-preserved
unfolding key_at
loop-i-preserved c =
    let z = c.in_ok-entry.ensures in
    let f = c.field.ensures in
    fields_more _ _ _ _ c.args.keys.now c.loop-i.invariant c.loop-i-test.true _ c.in_ok-entry.entry (sym z.ok_part ∙ f) ∙ rw (add-one c.loop-i.i, take-suc-set c.loop-i.out c.loop-i.i c.in_ok-entry.entry.value (omega arith))

pub returns : goal.returns
returns c = let e : c.loop-i.i ≡ length c.args.keys.now = omega arith in rw (← e) (fields_all _ _ _ _ c.args.keys.now c.loop-i.invariant c.loop-i-test.false)

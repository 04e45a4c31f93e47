-- `run::run_calls` meets its contract. The invariant is `Running`; the measure is what is left of the script. Assumes nothing.
use Rattle.std.proofs.Common.{refl, sym, ◌∙◌, ap, Ok}
use Rattle.std.proofs.lemmas.Result.{err_from_is_err_and}
use Rattle.run.proofs.Running.{running_start, running_one, running_end, running_bad, room_one, forward}
use Rattle.run.proofs.run_calls.Goals as goal

pub loop-read-init : goal.loop-read-init
loop-read-init c = (running_start _ _ _ _ c.new-d.ensures, refl)

pub returns-in_err-read-clause-wrote : goal.returns-in_err-read-clause-wrote
returns-in_err-read-clause-wrote c = (running_bad c.loop-read.invariant.0 c.requires.script_fits c.in_err-read.field-0.0.at (sym c.in_err-read.ensures)).wrote

pub returns-in_err-read-clause-stops : goal.returns-in_err-read-clause-stops
returns-in_err-read-clause-stops c =
    let p = err_from_is_err_and c.from_residual.result c.from_residual.ensures.1 in
    rw (p.1, p.2) (running_bad c.loop-read.invariant.0 c.requires.script_fits c.in_err-read.field-0.0.at (sym c.in_err-read.ensures)).stops

pub returns-in_err-read-clause-memory : goal.returns-in_err-read-clause-memory
returns-in_err-read-clause-memory c = (running_bad c.loop-read.invariant.0 c.requires.script_fits c.in_err-read.field-0.0.at (sym c.in_err-read.ensures)).memory

pub answer-requires : goal.answer-requires
answer-requires c = room_one c.loop-read.invariant.0 c.requires.script_fits c.in-Some.read (sym c.in_ok-read.ensures ∙ ap Ok c.in-Some.is) c.requires.output_fits

pub loop-read-smaller : goal.loop-read-smaller
loop-read-smaller c = forward c.loop-read.invariant.0 c.requires.script_fits c.in-Some.read (sym c.in_ok-read.ensures ∙ ap Ok c.in-Some.is)

pub loop-read-preserved : goal.loop-read-preserved
loop-read-preserved c =
    let r = running_one c.loop-read.invariant.0 c.requires.script_fits c.in-Some.read (sym c.in_ok-read.ensures ∙ ap Ok c.in-Some.is) c.perform-a.ensures c.answer.ensures in
    (r, c.perform-a.auto.mem ∙ c.loop-read.invariant.1)

pub returns-clause-wrote : goal.returns-clause-wrote
returns-clause-wrote c = (running_end c.loop-read.invariant.0 c.requires.script_fits (sym c.in_ok-read.ensures ∙ ap Ok c.in_default.is)).wrote

pub returns-clause-stops : goal.returns-clause-stops
returns-clause-stops c = (running_end c.loop-read.invariant.0 c.requires.script_fits (sym c.in_ok-read.ensures ∙ ap Ok c.in_default.is)).stops

pub returns-clause-memory : goal.returns-clause-memory
returns-clause-memory c = (running_end c.loop-read.invariant.0 c.requires.script_fits (sym c.in_ok-read.ensures ∙ ap Ok c.in_default.is)).memory

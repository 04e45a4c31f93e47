-- A short answer and words that say no record are refused; else the call is performed and all is put back. Assumes nothing.
use Rattle.std.proofs.Common.{rules}
use Rattle.firmware.proofs.Laws.{calling, ran}
use Rattle.firmware.proofs.call.try_call.Goals as goal

pub returns-in_err-answer : goal.returns-in_err-answer
returns-in_err-answer c = search (rules, calling)

pub returns-in_err-manager : goal.returns-in_err-manager
returns-in_err-manager c = search (rules, calling)

pub returns : goal.returns
returns c =
    ran _ _ _ _ c.in_ok-answer.ensures.cases.enough _ (search rules) _ _ c.perform-given.ensures _ _ c.pack.ensures c.put.ensures (search rules)

-- Words of another number, or with an order that is none, say nothing; else each part is read from its words. Assumes nothing.
use Rattle.std.proofs.Common.{rules}
use Rattle.packing.proofs.Laws.{unpacking, record_said}
use Rattle.packing.proofs.unpack.Goals as goal

pub returns-in_err-read_all : goal.returns-in_err-read_all
returns-in_err-read_all c = search (rules, unpacking)

pub returns-in_err-read_all-2 : goal.returns-in_err-read_all-2
returns-in_err-read_all-2 c = search (rules, unpacking)

pub returns-in_err-read_all-3 : goal.returns-in_err-read_all-3
returns-in_err-read_all-3 c = search (rules, unpacking)

pub returns : goal.returns
returns c =
    record_said _ (search rules) _ c.new-manager.ensures _ _ _ _ _ _ c.split_at.ensures.front (search rules) (search rules)
    c.in_ok-read_all.ensures c.in_ok-read_all-2.ensures c.in_ok-read_all-3.ensures

-- `after_return` meets its contract: the stores, one after the other. Assumes nothing.
use borrow.Author.Rules.{rules}
use Rattle.chain.proofs.Laws.{stores}
use Rattle.chain.proofs.after_return.Goals as goal

pub returns-then-p-eq0 : goal.returns-then-p-eq0
returns-then-p-eq0 c = search (rules, stores)

pub returns : goal.returns
returns c = search (rules, stores)

-- `after_get` meets its contract: the stores, one after the other. Assumes nothing.
use borrow.Author.Rules.{rules}
use Rattle.chain.proofs.Laws.{stores}
use Rattle.chain.proofs.after_get.Goals as goal

pub returns-then-next-ne0 : goal.returns-then-next-ne0
returns-then-next-ne0 c = search (rules, stores)

pub returns-else-next-ne0 : goal.returns-else-next-ne0
returns-else-next-ne0 c = search (rules, stores)

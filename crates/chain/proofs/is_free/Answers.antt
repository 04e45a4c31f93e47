-- `is_free` meets its contract: what is left of the chain has the address if the whole has it. Assumes nothing.
use borrow.Author.Rules.{rules}
use Rattle.chain.proofs.Laws.{seeking}
use Rattle.chain.proofs.is_free.Goals as goal

pub loop-left-init : goal.loop-left-init
loop-left-init c = search (rules, seeking)

pub overflow_sub-left : goal.overflow_sub-left
overflow_sub-left c = search (rules, seeking)

pub returns-then-a-at : goal.returns-then-a-at
returns-then-a-at c = search (rules, seeking)

pub next_of-at-requires : goal.next_of-at-requires
next_of-at-requires c = search (rules, seeking)

pub loop-left-smaller : goal.loop-left-smaller
loop-left-smaller c = search (rules, seeking)

pub loop-left-preserved : goal.loop-left-preserved
loop-left-preserved c = search (rules, seeking)

pub returns : goal.returns
returns c = search (rules, seeking)

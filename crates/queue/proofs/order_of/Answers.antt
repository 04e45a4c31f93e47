-- Where no live region has the id, the slot that stands for it goes by arrival. Assumes nothing.
use Rattle.std.proofs.Common.{rules}
use Rattle.objects.proofs.Searched.{region_unused, region_found}
use Rattle.queue.proofs.order_of.Goals as goal

pub returns : goal.returns
returns c = search (rules, region_unused, region_found)

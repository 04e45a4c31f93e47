-- THE LAWS OF A KIND, by the order of its regions. Assumes nothing.
use Rattle.manager.specs.Region.{kind_of}
use Rattle.manager.specs.declared.Order.{Order}
use Rattle.manager.specs.declared.Order.TheVariants.{Fifo, Priority, HalvesFifo, HalvesPriority}
use Rattle.trace.specs.Kinds.{reading_of}
use Rattle.trace.proofs.Loans.Lawful.{Lawful}
use Rattle.trace.proofs.Loans.Pages.{paged_lawful}
use Rattle.trace.proofs.Loans.Halves.{halves_lawful}

pub lawful_of : (o : Order) → Lawful (kind_of o) (reading_of o)
unfolding reading_of
lawful_of Fifo = paged_lawful
lawful_of Priority = paged_lawful
lawful_of HalvesFifo = halves_lawful
lawful_of HalvesPriority = halves_lawful

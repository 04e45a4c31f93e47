-- What the receipts say of a region, by the order that its create asked for. Assumes nothing.
use Rattle.manager.specs.declared.Order.{Order}
use Rattle.manager.specs.declared.Order.TheVariants.{Fifo, Priority, HalvesFifo, HalvesPriority}
use Rattle.trace.specs.Reading.{Reading}
use Rattle.trace.specs.Pages.{pages}
use Rattle.trace.specs.Halves.{halves}

unfoldable pub reading_of : Order → Reading
reading_of Fifo = pages
reading_of Priority = pages
reading_of HalvesFifo = halves
reading_of HalvesPriority = halves

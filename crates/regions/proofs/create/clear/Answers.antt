-- `clear`: all words 0, and then the first one's. Assumes nothing.
use Rattle.regions.proofs.Clear.{clear_is}
use Rattle.regions.proofs.create.clear.Goals as goal

pub returns : goal.returns
returns c = clear_is _ _ c.requires.0 (c.fill.ensures.after (λ y e. e))

-- `resize_at` meets its contract: with the most that it can have first, the segment is cut to k pages. Assumes nothing.
use Rattle.segments.proofs.Extend.{resized}
use Rattle.segments.proofs.pages.resize_at.Goals as goal

pub returns : goal.returns
returns c = resized c.requires.held c.extend-pages.ensures _ c.requires.reached.0 c.requires.reached.1 _ c.cut.ensures

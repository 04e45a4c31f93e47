-- `find` meets its contract: what it finds in the segments that are left is what it finds in all of them. Assumes nothing.
use Rattle.std.proofs.Common.{ap, ◌∙◌, arith}
use Rattle.std.proofs.lemmas.Grind.{common_steps}
use Rattle.map.proofs.Walked.{left}
use Rattle.segments.proofs.Walk.{place_start}
use Rattle.segments.proofs.Take.{has_room}
use Rattle.segments.proofs.pages.find.Goals as goal

pub loop-s-init : goal.loop-s-init
loop-s-init c = place_start _ _ _ _ c.requires.0 (ap left c.into_iter-s-iterator.ensures.into_iter_gives ∙ c.of-s-items.ensures)

pub returns-then-n-room_from : goal.returns-then-n-room_from
returns-then-n-room_from c = has_room _ _ _ _ c.requires.0 (grind (arith, common_steps))

-- `allocate` meets its contract: a search, and then the segment that it found is cut where the pages are. Assumes nothing.
use Rattle.manager.proofs.Laws.Map.{sound_tiled}
use Rattle.segments.proofs.Take.{took, untaken, page_is, words_are}
use Rattle.segments.proofs.pages.allocate.Goals as goal

pub find-requires : goal.find-requires
find-requires c = (sound_tiled _ _ c.requires.sound.sound, c.requires.sound.short, c.requires.some.1)

pub returns-in_err-i : goal.returns-in_err-i
returns-in_err-i c = rw c.from_residual.ensures (untaken _ c.args.n c.args.first c.requires.sound.sound c.in_err-i.ensures)

pub returns : goal.returns
returns c =
    let f = took c.args.n _ _ _ c.requires.sound.sound c.requires.some.0 c.in_ok-i.ensures.place in
    let e = c.gap_to-gap.ensures in
    (page_is _ _ _ _ f _ e, words_are _ _ _ _ f _ e _ c.take_at.ensures)

-- `held_words`: they lie in the memory. Assumes nothing.
use Rattle.std.proofs.Common.{arith, true, false, ◌≡◌, ◌≢◌}
use Rattle.manager.specs.Record.{region_of}
use Rattle.manager.specs.Region.{dead, held_at}
use Rattle.manager.specs.Sound.{sound}
use Rattle.map.proofs.Word.{said_is}
use Rattle.access.proofs.Laws.{held_is, held_inside}
use Rattle.access.proofs.held_words.Goals as goal

pub returns-clause-within : goal.returns-clause-within
returns-clause-within c =
    let m = c.args.mem.now in
    let d = c.args.d.now in
    let r = region_of d c.args.id in
    let s : sound m d ≡ true = grind arith in
    let f : dead r ≡ false = grind arith in
    let w = said_is _ _ c.held_word_at.ensures _ c.in_ok-pages.ensures.ok_part in
    let n : held_at m r c.args.address ≢ 0 = grind (arith, w.1, held_is m d s c.args.id f c.args.address) in
    let h = held_inside m d s c.args.id f c.args.address n in
    (omega arith, grind (arith, h, w.0, held_is m d s c.args.id f c.args.address))

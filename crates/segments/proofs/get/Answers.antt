-- `get`: past the checks the pages are taken, or the answer is 13, or the task waits. Assumes nothing.
use Rattle.std.proofs.Common.{arith, true, ◌≡◌, ◌≢◌, ◌∙◌}
use Rattle.manager.specs.Sound.{sound}
use Rattle.segments.proofs.Live.{found}
use Rattle.segments.proofs.Getting.{some_asked, get_refused, get_none}
use Rattle.segments.proofs.get.Goals as goal

pub returns-in_err-may_wait : goal.returns-in_err-may_wait
returns-in_err-may_wait c =
    let a = c.args in
    let s : sound a.mem.now a.d.now ≡ true = grind arith in
    let z : a.w.size ≢ 0 = grind arith in
    let f = found a.d.now a.w.region _ c.find.ensures _ c.in_ok-r.ensures.ok_part in
    let h = get_refused _ _ s a.w z a.wait _ f _ c.need_of-n.ensures c.of-s.result c.of-s.ensures _ c.in_ok-may_ask.ensures _ c.in_err-may_wait.ensures in
    grind (arith, h)

pub take_pages-requires : goal.take_pages-requires
take_pages-requires c =
    let a = c.args in
    let s : sound a.mem.now a.d.now ≡ true = grind arith in
    let z : a.w.size ≢ 0 = grind arith in
    let f = found a.d.now a.w.region _ c.find.ensures _ c.in_ok-r.ensures.ok_part in
    let h = some_asked _ _ s a.w z a.wait _ f _ c.need_of-n.ensures in
    (rw c.of-s.ensures h.0, h.1)

pub returns-in-No : goal.returns-in-No
returns-in-No c =
    let a = c.args in
    let s : sound a.mem.now a.d.now ≡ true = grind arith in
    let z : a.w.size ≢ 0 = grind arith in
    let f = found a.d.now a.w.region _ c.find.ensures _ c.in_ok-r.ensures.ok_part in
    get_none _ _ s a.w z a.wait _ f _ c.need_of-n.ensures c.of-s.result c.of-s.ensures _ c.in_ok-may_ask.ensures _ c.in_ok-may_wait.ensures _ _ c.take_pages.ensures c.in_default.is
    ∙ rw c.in-No.is

pub returns-in-Yes : goal.returns-in-Yes
returns-in-Yes c =
    let a = c.args in
    let s : sound a.mem.now a.d.now ≡ true = grind arith in
    let z : a.w.size ≢ 0 = grind arith in
    let f = found a.d.now a.w.region _ c.find.ensures _ c.in_ok-r.ensures.ok_part in
    get_none _ _ s a.w z a.wait _ f _ c.need_of-n.ensures c.of-s.result c.of-s.ensures _ c.in_ok-may_ask.ensures _ c.in_ok-may_wait.ensures _ _ c.take_pages.ensures c.in_default.is
    ∙ rw (c.in-Yes.is, c.enqueue.ensures)

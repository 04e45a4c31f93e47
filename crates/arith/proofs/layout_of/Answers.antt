-- `layout_of` meets its contract: the quotient's pages or one less are the page count, by the laws of `Count`, and what the quotient's
-- pages and words take of the area bounds every sum. Assumes nothing.
use native.Mathlib.Omega.{arith}
use Rattle.arith.proofs.Count.{stop_under, layout_exact, layout_none, layout_less}
use Rattle.arith.proofs.layout_of.Goals as goal

pub returns-then-n-eq0 : goal.returns-then-n-eq0
returns-then-n-eq0 c =
    let a = c.args in
    layout_none a.start a.length a.page _ c.most_pages-n.ensures
    _ c.with_pages-l.ensures c.if-n-eq0.true

pub overflow_mul-stop : goal.overflow_mul-stop
overflow_mul-stop c =
    let a = c.args in
    omega (arith, stop_under a.start a.length a.page _ c.most_pages-n.ensures _ c.with_pages-l.ensures)

pub overflow_mul-stop-2 : goal.overflow_mul-stop-2
overflow_mul-stop-2 c =
    let a = c.args in
    omega (arith, stop_under a.start a.length a.page _ c.most_pages-n.ensures _ c.with_pages-l.ensures)

pub overflow_add-stop : goal.overflow_add-stop
overflow_add-stop c =
    let a = c.args in
    omega (arith, stop_under a.start a.length a.page _ c.most_pages-n.ensures _ c.with_pages-l.ensures)

pub returns-then-stop-start : goal.returns-then-stop-start
returns-then-stop-start c =
    let a = c.args in
    layout_exact a.start a.length a.page _ c.most_pages-n.ensures
    _ c.with_pages-l.ensures c.if-stop-start.true

pub returns : goal.returns
returns c =
    let a = c.args in
    layout_less a.start a.length a.page _ c.most_pages-n.ensures
    _ c.with_pages-l.ensures c.if-stop-start.false _ c.with_pages.ensures

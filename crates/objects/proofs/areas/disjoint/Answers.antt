-- Each object passes the test with those behind it, or the first that does not ends the loop. Assumes nothing.
use Rattle.std.proofs.Common.{Bool, not}
use Rattle.manager.specs.Region.{overlap}
use Rattle.objects.proofs.Pairs.{pairs_end, clash_here, clash_next}
use Rattle.objects.proofs.areas.disjoint.Goals as goal

pub returns-then-meets : goal.returns-then-meets
returns-then-meets g c =
    let meet : g.row.T.Denot → g.row.T.Denot → Bool = λ x y. overlap (g.T.Slot.area x) (g.T.Slot.area y) in
    clash_here meet _ _ c.loop-x.invariant _ _ c.in-Some.ensures.cases.0 _ (rw c.area.ensures at c.meets.ensures) c.if-meets.true

pub loop-x-preserved : goal.loop-x-preserved
loop-x-preserved g c =
    let meet : g.row.T.Denot → g.row.T.Denot → Bool = λ x y. overlap (g.T.Slot.area x) (g.T.Slot.area y) in
    clash_next meet _ _ c.loop-x.invariant _ _ c.in-Some.ensures.cases.0 _ (rw c.area.ensures at c.meets.ensures) c.if-meets.false

pub returns : goal.returns
returns g c =
    let apart : g.row.T.Denot → g.row.T.Denot → Bool = λ x y. not (overlap (g.T.Slot.area x) (g.T.Slot.area y)) in
    pairs_end apart _ _ c.loop-x.invariant c.in_default.ensures.cases

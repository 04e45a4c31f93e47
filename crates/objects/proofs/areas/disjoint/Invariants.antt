use Rattle.std.proofs.Common.{◌≡◌, Bool, not, length}
use Rattle.manager.specs.Lists.{pairwise}
use Rattle.manager.specs.Region.{overlap}
use Rattle.objects.proofs.areas.disjoint.Given as goal

abbrev pub invariant-loop-x : goal.invariant-loop-x
invariant-loop-x g l =
    let apart : g.row.T.Denot → g.row.T.Denot → Bool = λ x y. not (overlap (g.T.Slot.area x) (g.T.Slot.area y)) in
    pairwise apart l.rest ≡ pairwise apart l.all

abbrev pub decreases-loop-x : goal.decreases-loop-x
decreases-loop-x g l = length l.rest

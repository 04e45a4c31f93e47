-- Those of the regions, those of the partitions, and each region with all partitions. Assumes nothing.
use Rattle.std.proofs.Common.{Bool, not, ◌&&◌, ◌≡◌, sym, ◌∙◌, rules, tests}
use Rattle.manager.specs.declared.Manager.{Manager}
use Rattle.manager.specs.declared.Region.{Region}
use Rattle.manager.specs.Lists.{any, pairwise}
use Rattle.manager.specs.Region.{overlap, area_of}
use Rattle.manager.proofs.Laws.Chains.{every_from_all}
use Rattle.objects.proofs.Pairs.{region_area, and_then, and_not, pairs_parts}
use Rattle.objects.proofs.areas.apart.Goals as goal
use Rattle.objects.proofs.areas.apart.Goals.{then-disjoint, else-disjoint}

abbrev within : Manager → Bool
within d =
    pairwise (λ x y. not (overlap (region_area x) (region_area y))) d.regions
    && pairwise (λ x y. not (overlap (area_of x) (area_of y))) d.partitions

pub returns-then-disjoint-2 : goal.returns-then-disjoint-2
returns-then-disjoint-2 c =
    let d = c.args.d.now in
    let t : Region → Bool = λ r. not (any (λ p. overlap (region_area r) (area_of p)) d.partitions) in
    let both = elim c.if-disjoint.branch as (λ _. c.if-disjoint.value ≡ within d) [
      | then-disjoint w ↦ w.value-is ∙ and_then _ _ _ c.disjoint.ensures w.if-disjoint.true _ w.disjoint-then-disjoint.ensures
      | else-disjoint w ↦ w.value-is ∙ and_not _ _ _ c.disjoint.ensures w.if-disjoint.false
    ] in
    and_then _ _ _ both c.if-disjoint-2.true _ (every_from_all t _ _ _ _ c.all.ensures.ran c.iter.ensures.rest (λ x b q k. search (rules, tests)))
    ∙ sym (pairs_parts d.regions d.partitions)

pub returns-else-disjoint-2 : goal.returns-else-disjoint-2
returns-else-disjoint-2 c =
    let d = c.args.d.now in
    let both = elim c.if-disjoint.branch as (λ _. c.if-disjoint.value ≡ within d) [
      | then-disjoint w ↦ w.value-is ∙ and_then _ _ _ c.disjoint.ensures w.if-disjoint.true _ w.disjoint-then-disjoint.ensures
      | else-disjoint w ↦ w.value-is ∙ and_not _ _ _ c.disjoint.ensures w.if-disjoint.false
    ] in
    and_not _ _ _ both c.if-disjoint-2.false ∙ sym (pairs_parts d.regions d.partitions)

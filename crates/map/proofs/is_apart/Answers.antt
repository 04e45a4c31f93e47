-- `is_apart` meets its contract: one pass over the words says both that they are tiled and that no two free segments adjoin (`sound_from`). Assumes nothing.
use borrow.Author.Rules.{rules}
use native.Mathlib.Omega.{arith}
use Rattle.map.proofs.Check.{checking, check_first, check_zero}
use Rattle.map.proofs.is_apart.Goals.{then-due-eq0+else-w-lt2+else-before-mark-eq0, else-due-eq0+else-w-ne0}
use Rattle.map.proofs.is_apart.Goals as goal

pub loop-w-init : goal.loop-w-init
loop-w-init c = search (rules, checking)

pub offset_bounds-map-w-index : goal.offset_bounds-map-w-index
offset_bounds-map-w-index c = search (rules, checking)

pub bounds-map-w-index : goal.bounds-map-w-index
bounds-map-w-index c = search (rules, checking)

pub returns-then-w-lt2 : goal.returns-then-w-lt2
returns-then-w-lt2 c = search (rules, checking)

pub overflow_add-before : goal.overflow_add-before
overflow_add-before c = search (rules, checking)

pub returns-then-before-mark-eq0 : goal.returns-then-before-mark-eq0
returns-then-before-mark-eq0 c = search (rules, checking)

pub overflow_sub-due : goal.overflow_sub-due
overflow_sub-due c = search (rules, checking)

pub returns-then-w-ne0 : goal.returns-then-w-ne0
returns-then-w-ne0 c = search (rules, checking)

pub overflow_sub-due-else-due-eq0 : goal.overflow_sub-due-else-due-eq0
overflow_sub-due-else-due-eq0 c = search (rules, checking)

pub loop-w-smaller : goal.loop-w-smaller
loop-w-smaller c = search (rules, checking)

pub loop-w-preserved : goal.loop-w-preserved
loop-w-preserved c =
    let v = c.loop-w.invariant in
    let h = c.loop-w-test.true in
    elim c.if-due-eq0.branch [
      | then-due-eq0+else-w-lt2+else-before-mark-eq0 w ↦
          rw (w.due-is, w.before-is) (check_first _ _ _ _ _ v h w.if-due-eq0.true (omega (arith, w.if-w-lt2.false)) w.if-before-mark-eq0.false)
      | else-due-eq0+else-w-ne0 w ↦ rw (w.due-is, w.before-is) (check_zero _ _ _ _ _ v h w.if-due-eq0.false w.if-w-ne0.false)
    ]

pub returns : goal.returns
returns c = search (rules, checking)

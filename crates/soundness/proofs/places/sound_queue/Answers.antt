-- What is left of the queue answers as the whole. Assumes nothing.
use Rattle.std.proofs.Common.{arith, rules, not, ap}
use Rattle.soundness.proofs.Queue.{walking_queue, walk_astray, walk_unsound, walk_met, walk_wrong, walk_next}
use Rattle.soundness.proofs.places.sound_queue.Goals as goal

pub loop-i-init : goal.loop-i-init
loop-i-init c = search (rules, walking_queue)

pub returns-then-w-eq0 : goal.returns-then-w-eq0
returns-then-w-eq0 c = search (rules, walking_queue)

pub returns-in_default : goal.returns-in_default
returns-in_default c =
    walk_astray _ _ _ _ _ _ _ _ c.loop-i.invariant c.loop-i-test.true _ c.if-w-eq0.false _ c.slot_of.ensures (omega (arith, c.told-regions, c.in_default.ensures.lookup.3))

pub returns-then-not-allows : goal.returns-then-not-allows
returns-then-not-allows c =
    walk_unsound _ _ _ _ _ _ _ _ c.loop-i.invariant c.loop-i-test.true _ c.if-w-eq0.false _ c.slot_of.ensures
    _ (c.in-Some.ensures.lookup.3.1 _) _ c.kept_or_of-facts.ensures _ c.allows.ensures (ap not c.if-not-allows.true)

pub returns-then-seen-task : goal.returns-then-seen-task
returns-then-seen-task c =
    walk_met _ _ _ _ _ _ _ _ c.loop-i.invariant c.loop-i-test.true _ c.if-w-eq0.false _ c.slot_of.ensures
    _ (c.in-Some.ensures.lookup.3.1 _) _ c.kept_or_of-facts.ensures _ c.allows.ensures (ap not c.if-not-allows.false) c.if-seen-task.true

pub returns-then-goes_before : goal.returns-then-goes_before
returns-then-goes_before c =
    walk_wrong _ _ _ _ _ _ _ _ c.loop-i.invariant c.loop-i-test.true _ c.if-w-eq0.false _ c.slot_of.ensures
    _ (c.in-Some.ensures.lookup.3.1 _) _ c.kept_or_of-facts.ensures _ c.allows.ensures (ap not c.if-not-allows.false) c.if-seen-task.false _ c.goes_before.ensures c.if-goes_before.true

pub loop-i-preserved : goal.loop-i-preserved
loop-i-preserved c =
    walk_next _ _ _ _ _ _ _ _ c.loop-i.invariant c.loop-i-test.true _ c.if-w-eq0.false _ c.slot_of.ensures
    _ (c.in-Some.ensures.lookup.3.1 _) _ c.kept_or_of-facts.ensures _ c.allows.ensures (ap not c.if-not-allows.false) c.if-seen-task.false _ c.goes_before.ensures c.if-goes_before.false

pub returns : goal.returns
returns c = search (rules, walking_queue)

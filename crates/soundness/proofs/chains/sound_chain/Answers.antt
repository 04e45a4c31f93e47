-- What is left of the chain answers as the whole. Assumes nothing.
use Rattle.std.proofs.Common.{arith, rules, not, ap}
use Rattle.soundness.proofs.Chain.{not_buffer, wrong_link, walk_next, end_wrong, end_rear}
use Rattle.soundness.proofs.chains.sound_chain.Goals as goal

pub returns-then-not-is_buffer : goal.returns-then-not-is_buffer
returns-then-not-is_buffer c = not_buffer _ _ _ _ _ _ c.is_buffer.ensures _ c.loop.invariant (omega (arith, c.loop-test.true)) (ap not c.if-not-is_buffer.true)

pub returns-then-mem-at : goal.returns-then-mem-at
returns-then-mem-at c = wrong_link _ _ _ _ _ _ c.is_buffer.ensures (ap not c.if-not-is_buffer.false) _ c.loop.invariant (omega (arith, c.loop-test.true)) c.if-mem-at.true

pub loop-preserved : goal.loop-preserved
loop-preserved c =
    walk_next _ _ _ _ _ _ c.is_buffer.ensures (ap not c.if-not-is_buffer.false) _ _ c.loop.invariant (omega (arith, c.loop-test.true)) c.if-mem-at.false
    (search rules)

pub returns-then-a-eq0 : goal.returns-then-a-eq0
returns-then-a-eq0 c = end_rear _ _ _ _ _ _ c.loop.invariant (omega (arith, c.loop-test.false)) c.if-a-eq0.true

pub returns-else-a-eq0 : goal.returns-else-a-eq0
returns-else-a-eq0 c = end_wrong _ _ _ _ _ _ c.loop.invariant (omega (arith, c.loop-test.false)) c.if-a-eq0.false

-- `serve`: each turn is one of the definition, and the last turn is where the definition ends. Assumes nothing.
use Rattle.segments.proofs.Serve.{serve_start, serve_stop, serve_room, serve_more, serve_less}
use Rattle.segments.proofs.serving.serve.Goals as goal

pub loop-i-init : goal.loop-i-init
loop-i-init c = serve_start _ _ _ _ c.requires.0 c.requires.1 c.requires.2

pub try_first-requires : goal.try_first-requires
try_first-requires c = (c.loop-i.invariant.sited, c.loop-i.invariant.region, c.loop-i.invariant.asking)

pub tell-requires : goal.tell-requires
tell-requires c = serve_room _ _ _ _ _ c.loop-i.told c.loop-i.invariant _ _ c.try_first.ensures _ c.in-Some.is

pub loop-i-smaller : goal.loop-i-smaller
loop-i-smaller c =
    rw c.tell.ensures
    (serve_less _ _ _ _ _ c.loop-i.told c.loop-i.invariant _ _ c.try_first.ensures _ c.in-Some.is _ c.dequeue-told.ensures)

pub loop-i-preserved : goal.loop-i-preserved
loop-i-preserved c =
    rw c.tell.ensures
    (serve_more _ _ _ _ _ c.loop-i.told c.loop-i.invariant _ _ c.try_first.ensures _ c.in-Some.is c.try_first.auto.mem _ c.dequeue-told.ensures)

pub returns : goal.returns
returns c = serve_stop _ _ _ _ _ c.loop-i.told c.loop-i.invariant _ _ c.try_first.ensures c.in_default.is

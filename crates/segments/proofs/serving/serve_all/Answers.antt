-- `serve_all`: after i slots, what is left to serve gives what serving all gives. Assumes nothing.
use Rattle.std.proofs.Common.{rules}
use Rattle.segments.proofs.Rounds.{rounds_start, rounds}
use Rattle.segments.proofs.serving.serve_all.Goals as goal

pub loop-i-init : goal.loop-i-init
loop-i-init c = rounds_start _ _ c.requires.0 c.requires.1

pub serve_slot-requires : goal.serve_slot-requires
serve_slot-requires c = (c.loop-i.invariant.sites, c.loop-i.invariant.ready, c.loop-i-test.true)

pub loop-i-preserved : goal.loop-i-preserved
loop-i-preserved c = search (rules, rounds)

pub returns : goal.returns
returns c = search (rules, rounds)

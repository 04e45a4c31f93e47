-- `previous` meets its contract: the last segment that the chain gives stands before page p. Assumes nothing.
use Rattle.std.proofs.Common.{rules, tests, not, nat_eq}
use Rattle.std.proofs.lemmas.Iterator.Consumers.{YieldsList-at}
use Rattle.std.proofs.lemmas.Iterator.Search.{YieldsList-from_take_while}
use Rattle.manager.specs.Map.{decode}
use Rattle.map.specs.declared.walk.Segment.{Segment}
use Rattle.map.proofs.Walked.{walk_gives, drained}
use Rattle.segments.proofs.Walk.{previous_page}
use Rattle.segments.proofs.pages.previous.Goals as goal

pub returns : goal.returns
returns c =
    let ran = c.last.ensures.ran in
    let e =
    previous_page c.args.p (decode c.args.map.now) ran.0
    (drained {s = c.take_while.result} ran.0 ran.1
    (YieldsList-from_take_while _ (λ (x : Segment). not (nat_eq x.at c.args.p)) (YieldsList-at c.take_while.ensures.source (walk_gives {s = c.of.result} _ c.of.ensures)) c.take_while.ensures.closure c.take_while.ensures.done (λ x b q k. search (rules, tests)))) in
    rw (← e) (search rules)

-- `smallest` meets its contract: what the chain gives is the first of the smallest blocks. Assumes nothing.
use Rattle.std.proofs.Common.{rules, tests, ◌≡◌}
use Rattle.std.specs.List.{reduce}
use Rattle.std.specs.Ordering.{nat_cmp}
use Rattle.std.proofs.lemmas.Iterator.Consumers.{YieldsList-at, YieldsList-from_filter}
use Rattle.manager.specs.Map.{decode}
use Rattle.map.specs.declared.walk.Segment.{Segment}
use Rattle.map.proofs.Walked.{walk_gives}
use Rattle.segments.proofs.Blocks.Search.{better, serving, serves, smallest_is, least_by_key}
use Rattle.segments.proofs.halves.smallest.Goals as goal

found : (c : goal.After-min_by_key) → c.min_by_key.result ≡ reduce better (serving c.args.k 0 (decode c.args.map.now))
found c =
    least_by_key _ nat_cmp _ (λ (x : Segment). x.pages) (λ x k q h. search (rules, tests)) c.filter.result c.min_by_key.result _ c.min_by_key.ensures.ran
    (YieldsList-from_filter _ (serves c.args.k) (YieldsList-at c.filter.ensures.source (walk_gives {s = c.of.result} _ c.of.ensures)) c.filter.ensures.closure (λ x b q k. search (rules, tests)))

pub returns : goal.returns
returns c = smallest_is _ _ _ c.requires (found c)

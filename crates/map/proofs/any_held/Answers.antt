-- `any_held` meets its contract: a segment is held where a word is odd. Assumes nothing.
use Rattle.std.proofs.Common.{rules, tests}
use mathlib.Core.Path.{sym, ◌∙◌}
use Rattle.manager.specs.Map.{is_held}
use Rattle.manager.proofs.Laws.Chains.{any_from_any}
use Rattle.map.proofs.Scan.{held_words}
use Rattle.map.proofs.any_held.Goals as goal

pub returns : goal.returns
returns c =
    any_from_any is_held c.args.map.now _ _ _ c.any.ensures.ran (cc) (λ x b q k. search (rules, tests)) ∙ sym (held_words c.args.map.now)

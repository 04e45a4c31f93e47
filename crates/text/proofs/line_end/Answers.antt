-- `text::line_end` meets its contract: the line ends where the first newline is behind its start. Assumes nothing.
use Rattle.std.proofs.Common.{arith, rules, ◌∙◌, ◌+◌}
use Rattle.text.proofs.Laws.{line_out, line_missing, line_ends, line_within}
use Rattle.text.proofs.line_end.Goals as goal

pub returns-in_err-n : goal.returns-in_err-n
returns-in_err-n c = c.from_residual-in_err-n.ensures ∙ line_missing _ _ c.in_ok-get.ensures.lookup.0.2 c.in_err-n.ensures

pub overflow_add-result : goal.overflow_add-result
overflow_add-result c = let e = line_within c.args.src.now c.args.at (c.args.at + c.in_ok-n.n) (line_ends _ _ c.in_ok-get.ensures.lookup.0.2 _ c.in_ok-n.ensures) in omega arith

pub returns : goal.returns
returns c = line_ends _ _ c.in_ok-get.ensures.lookup.0.2 _ c.in_ok-n.ensures

pub returns-in_err-get : goal.returns-in_err-get
returns-in_err-get c = search (rules, line_out)

-- `held_at`: the segment is of a live region. Assumes nothing.
use Rattle.std.proofs.Common.{sym, ◌∙◌}
use Rattle.map.proofs.Word.{said_is}
use Rattle.segments.proofs.Live.{found, holds, holds_told}
use Rattle.segments.proofs.checks.held_at.Goals as goal

pub returns-clause-told : goal.returns-clause-told
returns-clause-told c =
    let f = found c.args.d.now c.args.id _ c.find.ensures _ c.in_ok-region.ensures.ok_part in
    let w = said_is _ _ c.held_word_at.ensures _ c.in_ok-pages.ensures.ok_part in
    holds_told c.args.mem.now c.args.d.now c.requires c.args.id f.1 _ c.of-site.result (c.of-site.ensures ∙ f.0) _ w.0 (λ z. w.1 (sym w.0 ∙ z))

pub returns-clause-holds : goal.returns-clause-holds
returns-clause-holds c =
    let f = found c.args.d.now c.args.id _ c.find.ensures _ c.in_ok-region.ensures.ok_part in
    let w = said_is _ _ c.held_word_at.ensures _ c.in_ok-pages.ensures.ok_part in
    holds c.args.mem.now c.args.d.now c.requires c.args.id f.1 _ c.of-site.result (c.of-site.ensures ∙ f.0) _ w.0 (λ z. w.1 (sym w.0 ∙ z))

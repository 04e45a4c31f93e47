-- `try_first`: each end is one of the definition of a turn. Assumes nothing.
use Rattle.std.proofs.Common.{rules, refl, sym, ◌∙◌}
use Rattle.objects.proofs.Laws.{unmapped}
use Rattle.objects.proofs.Searched.{place_missing, place_found, place_within}
use Rattle.segments.proofs.Serve.{turn_none, turn_asks, turn_no, turn_yes}
use Rattle.segments.proofs.serving.try_first.Goals as goal

pub returns-in_err-i : goal.returns-in_err-i
returns-in_err-i c =
    rw c.from_residual.ensures
    (turn_none _ _ _ _ c.requires.0 c.requires.1 _ refl (place_missing _ _ (sym c.in_err-i.was ∙ c.first_of.ensures)))

pub take_pages-requires : goal.take_pages-requires
take_pages-requires c =
    let e = sym c.in_ok-i.was ∙ c.first_of.ensures in (
      c.requires.0,
      turn_asks c.args.mem.now c.args.d.now c.args.id c.args.s.region c.requires.0 c.requires.1 _ (place_found _ _ _ e) c.requires.2 (place_within _ _ _ e) (search (rules, unmapped)) _ _ c.need_of-n.ensures,
    )

pub returns-in_err-p : goal.returns-in_err-p
returns-in_err-p c =
    let e = sym c.in_ok-i.was ∙ c.first_of.ensures in
    rw c.from_residual-in_err-p.ensures
    (turn_no _ _ _ _ c.requires.0 c.requires.1 _ (place_found _ _ _ e) (place_within _ _ _ e) _ c.need_of-n.ensures _ _ c.take_pages.ensures c.in_err-p.was)

pub returns : goal.returns
returns c =
    let e = sym c.in_ok-i.was ∙ c.first_of.ensures in
    turn_yes _ _ _ _ c.requires.0 c.requires.1 _ (place_found _ _ _ e) (place_within _ _ _ e) _ c.need_of-n.ensures _ _ c.take_pages.ensures _ c.in_ok-p.was
    _ c.address_of.ensures

-- `with_pages` meets its contract: the map's end is rounded up as the definition does, and all stays far below 64 bits. Assumes nothing.
use Rattle.arith.proofs.Laws.Round.{round_under}
use Rattle.arith.proofs.Laws.Layout.{layout_is}
use native.Mathlib.Omega.{arith}
use Rattle.arith.proofs.with_pages.Goals as goal

pub overflow_add-map : goal.overflow_add-map
overflow_add-map c = omega (arith, c.round_up-map.ensures, round_under c.args.start 4)

pub multiples-requires : goal.multiples-requires
multiples-requires c = omega (arith, c.round_up-map.ensures, round_under c.args.start 4)

pub returns : goal.returns
returns c =
    let a = c.args in
    layout_is a.start a.page a.n c.round_up-map.result c.multiples.result
    c.round_up-map.ensures c.multiples.ensures

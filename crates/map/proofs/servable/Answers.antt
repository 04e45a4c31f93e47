-- `servable` meets its contract: the map is then one free segment. Assumes nothing.
use mathlib.Core.Path.{ap, ◌∙◌}
use native.Mathlib.Omega.{arith}
use mathlib.Core.Bool.{not}
use borrow.Author.Tests.{eq-eqb}
use lib.Dec.{leb}
use Rattle.map.proofs.NothingHeld.{serves_halves, serves_pages, serves_none}
use Rattle.map.proofs.servable.Goals.{then-by_halves, else-by_halves}
use Rattle.map.proofs.servable.Goals as goal

pub returns-then-l-ne0 : goal.returns-then-l-ne0
returns-then-l-ne0 c =
    let a = c.args in
    let k = c.by_halves.ensures in
    ap (leb a.n.pages) c.from.ensures
    ∙ elim c.if-by_halves.branch [
      | then-by_halves w ↦ ap (leb a.n.pages) (grind arith) ∙ serves_halves a.o _ k a.l a.n c.if-l-ne0.true w.if-by_halves.true
      | else-by_halves w ↦ ap (leb a.n.pages) w.room-is ∙ serves_pages a.o _ k a.l a.n c.if-l-ne0.true w.if-by_halves.false _ w.room_from-room.ensures
    ]

pub returns-else-l-ne0 : goal.returns-else-l-ne0
returns-else-l-ne0 c = ap not (eq-eqb c.args.l.pages 0 c.if-l-ne0.false) ∙ serves_none c.args.o c.args.l c.args.n c.if-l-ne0.false

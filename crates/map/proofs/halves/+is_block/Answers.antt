-- `is_block` meets its contract: the laws of `Block`, and the words of a half are fewer than those of the block. Assumes nothing.
use native.Mathlib.Omega.{arith}
use mathlib.Core.Path.{sym, ap, ◌∙◌}
use mathlib.Core.Bool.{not, false≢true}
use borrow.Author.Tests.{ne_eqb}
use Rattle.map.proofs.Block.{whole_block, page_bad, low_power, high_power, low_less, high_less, low_bad, high_bad, low_held, high_says}
use Rattle.map.proofs.halves.+is_block.Goals.{then-is_block, else-is_block, then-first-n-2, else-first-n-2}
use Rattle.map.proofs.halves.+is_block.Goals as goal

pub returns-then-first-n : goal.returns-then-first-n
returns-then-first-n t c = whole_block c.args.map.now c.requires c.if-first-n.true _ c.rest_zero.ensures

pub returns-then-n-eq1 : goal.returns-then-n-eq1
returns-then-n-eq1 t c = page_bad c.args.map.now c.if-n-eq1.true c.if-first-n.false

pub is_block-requires : goal.is_block-requires
is_block-requires t c =
    let ws = c.args.map.now in
    (omega (arith, low_less ws c.requires c.if-n-eq1.false), low_power ws c.requires c.if-n-eq1.false)

pub is_block-requires-then-is_block : goal.is_block-requires-then-is_block
is_block-requires-then-is_block t c =
    let ws = c.args.map.now in
    (omega (arith, high_less ws c.requires c.if-n-eq1.false), high_power ws c.requires c.if-n-eq1.false)

pub returns-else-is_block-2 : goal.returns-else-is_block-2
returns-else-is_block-2 t c =
    let ws = c.args.map.now in
    let h = c.if-first-n.false in
    elim c.if-is_block.branch [
      | then-is_block w ↦
          let r = w.is_block-then-is_block in
          c.if-is_block-2.false ∙ high_bad ws c.requires c.if-n-eq1.false h _ r.ensures (sym w.value-is ∙ c.if-is_block-2.false)
      | else-is_block w ↦ w.value-is ∙ w.if-is_block.false ∙ low_bad ws c.requires c.if-n-eq1.false h _ c.is_block.ensures w.if-is_block.false
    ]

pub returns-after-first-n-2 : goal.returns-after-first-n-2
returns-after-first-n-2 t c =
    let ws = c.args.map.now in
    elim c.if-is_block.branch [
      | then-is_block w ↦
          let r = w.is_block-then-is_block in
          let low = w.if-is_block.true in
          let high = sym w.value-is ∙ c.if-is_block-2.true in
          elim c.if-first-n-2.branch [
            | then-first-n-2 v ↦
                ap not v.result-is
                ∙ high_says ws c.requires c.if-n-eq1.false _ _ c.is_block.ensures r.ensures low high c.if-first-n.false v.if-first-n-2.true
            | else-first-n-2 v ↦
                ap not (v.result-is ∙ ne_eqb _ _ v.if-first-n-2.false) ∙ low_held ws c.requires c.if-n-eq1.false _ _ c.is_block.ensures r.ensures low high v.if-first-n-2.false
          ]
      | else-is_block w ↦ absurd (false≢true (sym (w.value-is ∙ w.if-is_block.false) ∙ c.if-is_block-2.true))
    ]

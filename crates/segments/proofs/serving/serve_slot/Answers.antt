-- `serve_slot`: an empty slot serves nobody, and a live one is served under its id. Assumes nothing.
use Rattle.std.proofs.Common.{refl, ◌∙◌}
use Rattle.segments.proofs.Rounds.{slot_none, slot_sited, slot_region, slot_served}
use Rattle.segments.proofs.serving.serve_slot.Goals as goal

pub returns-then-r-eq0 : goal.returns-then-r-eq0
returns-then-r-eq0 c = slot_none _ _ c.requires.0 c.requires.1 _ c.requires.2 _ refl c.if-r-eq0.true

pub serve-requires : goal.serve-requires
serve-requires c = (
  rw c.of.ensures (slot_sited _ _ c.requires.0 c.requires.1 _ c.requires.2 _ refl c.if-r-eq0.false),
  c.of.ensures ∙ slot_region _ _ c.requires.0 c.requires.1 _ c.requires.2 _ refl c.if-r-eq0.false _ c.id_at-id.ensures,
  c.requires.1,
)

pub returns : goal.returns
returns c = slot_served _ _ c.requires.0 c.requires.1 _ c.requires.2 _ refl c.if-r-eq0.false _ c.id_at-id.ensures _ _ (rw c.of.ensures at c.serve.ensures)

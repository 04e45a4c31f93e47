-- `create`: the new region lies in the memory, and its id fits. Assumes nothing.
use Rattle.std.proofs.Common.{sym, ◌∙◌, arith, true, ◌≡◌}
use Rattle.manager.specs.Sound.{sound}
use Rattle.objects.proofs.Searched.{place_within}
use Rattle.regions.proofs.Making.{new_laid, generation_is_small}
use Rattle.regions.proofs.create.create.Goals as goal

pub clear_map-requires : goal.clear_map-requires
clear_map-requires c =
    let s : sound c.args.mem.now c.args.d.now ≡ true = grind arith in
    (new_laid _ _ s _ _ _ _ _ (grind arith) (grind arith) (grind arith) _ c.new_region-r.ensures (grind arith) _, c.layout_of-l.ensures)

pub id_at-id-requires-clause-within : goal.id_at-id-requires-clause-within
id_at-id-requires-clause-within c = place_within _ _ _ (sym c.in_ok-slot.ensures.ok_part ∙ c.unspent.ensures)

pub id_at-id-requires-clause-generation : goal.id_at-id-requires-clause-generation
id_at-id-requires-clause-generation c =
    let s : sound c.args.mem.now c.args.d.now ≡ true = grind arith in
    generation_is_small c.args.mem.now c.args.d.now s _

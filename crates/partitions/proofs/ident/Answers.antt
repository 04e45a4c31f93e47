-- `ident`: the id of a live partition fits. Assumes nothing.
use Rattle.std.proofs.Common.{sym, ◌∙◌, arith, true, ◌≡◌}
use Rattle.manager.specs.Sound.{sound}
use Rattle.objects.proofs.Searched.{place_within}
use Rattle.partitions.proofs.Making.{generation_is_small}
use Rattle.partitions.proofs.ident.Goals as goal

pub id_at-requires-clause-within : goal.id_at-requires-clause-within
id_at-requires-clause-within c = place_within _ _ _ (sym c.in_ok-slot.ensures.ok_part ∙ c.named.ensures)

pub id_at-requires-clause-generation : goal.id_at-requires-clause-generation
id_at-requires-clause-generation c =
    let s : sound c.args.mem.now c.args.d.now ≡ true = grind arith in
    generation_is_small c.args.mem.now c.args.d.now s _

-- `create`: the new partition lies in the memory, and its id fits. Assumes nothing.
use Rattle.std.proofs.Common.{sym, ◌∙◌, arith, true, ◌≡◌, ◌<◌, ◌+◌}
use Rattle.manager.specs.Sound.{sound}
use Rattle.objects.proofs.Searched.{place_within}
use Rattle.partitions.proofs.Making.{area_ends, generation_is_small}
use Rattle.partitions.proofs.create.create.Goals as goal

pub new_partition-p-requires : goal.new_partition-p-requires
new_partition-p-requires c =
    let s : sound c.args.mem.now c.args.d.now ≡ true = grind arith in
    (grind arith, grind arith, area_ends _ _ s _ _ (grind arith))

pub link_all-requires : goal.link_all-requires
link_all-requires c =
    let s : sound c.args.mem.now c.args.d.now ≡ true = grind arith in
    let e : c.args.start + c.args.length < 4294967296 = area_ends _ _ s _ _ (grind arith) in
    let z : 0 < c.args.size = grind arith in
    rw c.new_partition-p.ensures (z, e)

pub id_at-id-requires-clause-within : goal.id_at-id-requires-clause-within
id_at-id-requires-clause-within c = place_within _ _ _ (sym c.in_ok-slot.ensures.ok_part ∙ c.unspent-vacant.ensures)

pub id_at-id-requires-clause-generation : goal.id_at-id-requires-clause-generation
id_at-id-requires-clause-generation c =
    let s : sound c.args.mem.now c.args.d.now ≡ true = grind arith in
    generation_is_small c.args.mem.now c.args.d.now s _

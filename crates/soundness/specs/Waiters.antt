-- What a sound waiter is, by the facts of the region that it waits in: `sound_waiter` in two parts, a function of the code each. Assumes
-- nothing.
use Rattle.std.specs.Prelude.{ℕ, Bool, cond, ◌&&◌, List, [], eqb, leb}
use Rattle.std.specs.declared.option.Option.{Option}
use Rattle.std.specs.declared.option.Option.TheVariants.{None, Some}
use Rattle.manager.specs.Record.{tasks, has_id}
use Rattle.manager.specs.Region.{kind, layout_of, any_held, is_alignment, need_of, servable_at}
use Rattle.manager.specs.declared.Manager.{Manager}
use Rattle.manager.specs.declared.Region.{Region}
use Rattle.manager.specs.declared.Waiter.{Waiter}
use Rattle.soundness.specs.declared.places.Facts.{Facts}

-- a record that has only regions and a queue
abbrev pub queue_of : List Region → List Waiter → Manager
queue_of rs ws = record { regions = rs; partitions = []; waiters = ws }

-- what is asked of what is in an id's slot: its layout, and "in a live region with something held", which has that id
abbrev pub facts_of : List ℕ → ℕ → Region → Facts
facts_of m id r = record { id = id; region = r; layout = layout_of r; held = has_id r.name r.generation id && any_held m r }

-- those kept, where they are of the same id, else new ones
abbrev pub kept_or : Option Facts → ℕ → Facts → Facts
kept_or None id new = new
kept_or (Some f) id new = cond (eqb f.id id) f new

-- no waiter goes before this one: no slot is before that of id 1, and no priority below 0
abbrev pub front_waiter : Waiter
front_waiter = record { task = 1; region = 1; size = 0; alignment = 0; priority = 0; ticks = 0 }

-- with an alignment that its region allows, on which that could serve it with nothing held
abbrev pub sound_alignment : Facts → Waiter → Bool
sound_alignment f w =
    let r = f.region in
    (kind r).aligns w.alignment
    && (is_alignment r.page w.alignment && servable_at (kind r) f.layout (need_of r w.size w.alignment))

-- "with a size from 1 that region can hold, a priority from 1 to 255"
abbrev pub sound_request : Facts → Waiter → Bool
sound_request f w = leb 1 w.size && (sound_alignment f w && (leb 1 w.priority && leb w.priority 255))

-- "each waiting task of 1 to 16, in a live region with something held"
abbrev pub sound_in : Facts → Waiter → Bool
sound_in f w = leb w.task tasks && (f.held && sound_request f w)

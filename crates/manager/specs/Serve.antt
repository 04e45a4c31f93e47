-- Rules 8: the first waiter is tried by the get rule; if served, the next; the first who can't be served
-- ends it. One region's queue, after a return and a resize; every region's, after a tick that sent anyone away. Assumes nothing.
use Rattle.std.specs.Prelude.{ℕ, zero, suc, cond, List, [], ◌∷◌, ◌++◌, get_or, ltb}
use Rattle.manager.specs.Record.{slots, tasks, no_region, no_waiter, no_information, region_of, id_of}
use Rattle.manager.specs.Result.{Result}
use Rattle.manager.specs.Kind.{on_place}
use Rattle.manager.specs.Region.{dead, address_of, need_of, placed, taken}
use Rattle.manager.specs.Queue.{first_of, dequeue}
use Rattle.manager.specs.declared.Manager.{Manager}
use Rattle.manager.specs.declared.Waiter.{Waiter}
use Rattle.manager.specs.declared.Notice.{Notice}
use Rattle.manager.specs.declared.Status.TheVariants.{Successful}

-- what serving leaves: the memory, the record, and the notices in order
pub record Served : Type 0 where
  pub memory : List ℕ
  pub manager : Manager
  pub notices : List Notice

abbrev pub quiet : List ℕ → Manager → Served
quiet m d = record { memory = m; manager = d; notices = [] }

abbrev pub granted : Waiter → ℕ → Notice
granted w a = record { task = w.task; status = Successful; address = a }

abbrev pub telling : Notice → Served → Served
telling n s = record { memory = s.memory; manager = s.manager; notices = n ∷ s.notices }

-- what serving leaves, behind notices that came before it
abbrev pub behind : List Notice → Served → Served
behind ns s = record { memory = s.memory; manager = s.manager; notices = ns ++ s.notices }

-- at most so many grants
unfoldable pub serve_up_to : ℕ → List ℕ → Manager → ℕ → Served
serve_up_to zero m d id = quiet m d
serve_up_to (suc f) m d id =
    let r = region_of d id in
    let i = first_of id d.waiters in
    let w = get_or d.waiters i no_waiter in
    let n = need_of r w.size w.alignment in
    cond (ltb i tasks)
    (on_place (placed m r n) (λ p. telling (granted w (address_of r p)) (serve_up_to f (taken m r n) (dequeue d i) id)) (quiet m d))
    (quiet m d)

-- the queue of a region: as many grants as there are places
unfoldable pub serve : List ℕ → Manager → ℕ → Served
serve m d id = serve_up_to tasks m d id

-- of the region in a slot; an empty slot has none
unfoldable pub serve_slot : List ℕ → Manager → ℕ → Served
serve_slot m d i =
    let r = get_or d.regions i no_region in
    cond (dead r) (quiet m d) (serve m d (id_of i r.generation))

-- of the regions in so many slots, one after the other from slot i on
unfoldable pub serve_slots : ℕ → List ℕ → Manager → ℕ → Served
serve_slots zero m d i = quiet m d
serve_slots (suc n) m d i =
    let s = serve_slot m d i in
    behind s.notices (serve_slots n s.memory s.manager (suc i))

-- of every region, the lowest slot first
unfoldable pub serve_all : List ℕ → Manager → Served
serve_all m d = serve_slots slots m d 0

-- after a tick, by the notices of those that it sent away: where there are none, nobody is served
abbrev pub serve_after : List Notice → List ℕ → Manager → Served
serve_after [] m d = quiet m d
serve_after (n ∷ ns) m d = serve_all m d

-- the successful answer, with a value
abbrev pub from_served : ℕ → Served → Result
from_served v s = record { memory = s.memory; status = Successful; value = v; information = no_information; notices = s.notices; manager = s.manager }

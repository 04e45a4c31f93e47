-- Rules 7: the wait queue. The record keeps one array of waiters, by the regions' slots and within a region in the
-- order in which they are served; unused places are at the end. Assumes nothing.
use Rattle.std.specs.Prelude.{ℕ, ◌-◌, Bool, true, false, cond, not, ◌&&◌, ◌||◌, List, [], ◌∷◌, ◌++◌, take, drop, ltb, eqb}
use Rattle.manager.specs.Record.{tasks, no_waiter, slot_of, region_of, with_queue}
use Rattle.manager.specs.Result.{pad}
use Rattle.manager.specs.Lists.{any, index_of}
use Rattle.manager.specs.declared.Manager.{Manager}
use Rattle.manager.specs.declared.Waiter.{Waiter}
use Rattle.manager.specs.declared.Notice.{Notice}
use Rattle.manager.specs.declared.Order.{Order}
use Rattle.manager.specs.declared.Order.TheVariants.{Fifo, Priority, HalvesFifo, HalvesPriority}
use Rattle.manager.specs.declared.Status.TheVariants.{Timeout}

-- whether an order goes by priority; in FIFO order all go by arrival
abbrev pub by_priority : Order → Bool
by_priority Fifo = false
by_priority Priority = true
by_priority HalvesFifo = false
by_priority HalvesPriority = true

-- priority 1 is most urgent; equal ones go by arrival
abbrev pub urgent : Order → ℕ → ℕ → Bool
urgent o p q = by_priority o && ltb p q

-- whether a waiter w of a region of order o goes before x: x is an unused place, of a region in a later slot, or less urgent. A region is
-- lower than another where its slot is, whatever their generations
unfoldable pub goes_before : Order → Waiter → Waiter → Bool
goes_before o w x =
    eqb x.task 0
    || (ltb (slot_of w.region) (slot_of x.region)
    || (eqb (slot_of w.region) (slot_of x.region) && urgent o w.priority x.priority))

-- w at the front, and each other one place later; the last falls off
unfoldable pub push : Waiter → List Waiter → List Waiter
push w [] = []
push w (x ∷ xs) = w ∷ push x xs

-- w before the first that it goes before
unfoldable pub insert : Order → Waiter → List Waiter → List Waiter
insert o w [] = []
insert o w (x ∷ xs) = cond (goes_before o w x) (push w (x ∷ xs)) (x ∷ insert o w xs)

-- one taken out, and an unused place at the end
abbrev pub pull : List Waiter → List Waiter
pull [] = []
pull (x ∷ xs) = xs ++ (no_waiter ∷ [])

unfoldable pub remove_at : ℕ → List Waiter → List Waiter
remove_at i ws = take i ws ++ pull (drop i ws)

-- the record with w in the queue of its region, and without the waiter at a place
unfoldable pub enqueue : Manager → Waiter → Manager
enqueue d w = with_queue d (insert (region_of d w.region).order w d.waiters)

unfoldable pub dequeue : Manager → ℕ → Manager
dequeue d i = with_queue d (remove_at i d.waiters)

-- whether a place holds a waiter of a region
abbrev pub waits_for : ℕ → Waiter → Bool
waits_for id w = not (eqb w.task 0) && eqb w.region id

-- the place of the first waiter of a region; past all places where there is none
abbrev pub first_of : ℕ → List Waiter → ℕ
first_of id ws = index_of (waits_for id) ws

-- a task already waits
abbrev pub waiting : Manager → ℕ → Bool
waiting d task = any (λ w. eqb w.task task) d.waiters

-- Tick: each waiter with ticks left loses one; at 0 it leaves with status 6 and address 0. Ticks 0 waits for ever
abbrev pub aged : Waiter → Waiter
aged w =
    record { task = w.task; region = w.region; size = w.size; alignment = w.alignment; priority = w.priority; ticks = w.ticks - 1 }

abbrev pub expired : Waiter → Notice
expired w = record { task = w.task; status = Timeout; address = 0 }

-- those that stay, and the notices of those that leave, in the order of the queue: lowest region first
unfoldable pub staying : List Waiter → List Waiter
staying [] = []
staying (w ∷ ws) = cond (eqb w.ticks 1) (staying ws) (aged w ∷ staying ws)

unfoldable pub leaving : List Waiter → List Notice
leaving [] = []
leaving (w ∷ ws) = cond (eqb w.ticks 1) (expired w ∷ leaving ws) (leaving ws)

unfoldable pub after_tick : Manager → Manager
after_tick d = with_queue d (pad tasks no_waiter (staying d.waiters))

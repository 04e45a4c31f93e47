-- Rules 7 by the receipts: the order in which the waits stand, and whose time runs out at a tick. Assumes
-- nothing.
use Rattle.std.specs.Prelude.{Bool, cond, ◌&&◌, ◌||◌, List, [], ◌∷◌, ℕ, ◌+◌, eqb, ltb, Option, None, Some}
use Rattle.manager.specs.Record.{slot_of}
use Rattle.manager.specs.Queue.{by_priority}
use Rattle.manager.specs.declared.Notice.{Notice}
use Rattle.manager.specs.declared.Order.{Order}
use Rattle.manager.specs.declared.Order.TheVariants.{Fifo}
use Rattle.manager.specs.declared.Status.TheVariants.{Timeout}
use Rattle.trace.specs.Receipts.{Receipts, RegionEntry, Wait}

-- one put before the first that it goes before, or at the end; and each of a list in turn, so that those alike go by arrival
module _ {A : Type 0} (before : A → A → Bool) where
  unfoldable pub insert_by : A → List A → List A
  insert_by w [] = w ∷ []
  insert_by w (x ∷ q) = cond (before w x) (w ∷ x ∷ q) (x ∷ insert_by w q)

  unfoldable pub insert_all : List A → List A → List A
  insert_all q [] = q
  insert_all q (w ∷ ws) = insert_all (insert_by w q) ws

-- THE QUEUE OF A REGION: its waits by arrival, or by priority ("1 is most urgent") and equal ones by arrival
abbrev pub rank : Order → Wait → ℕ
rank o w = cond (by_priority o) w.priority 0

abbrev pub urgent_than : Order → Wait → Wait → Bool
urgent_than o w x = ltb (rank o w) (rank o x)

unfoldable pub waits_in : ℕ → List Wait → List Wait
waits_in id [] = []
waits_in id (w ∷ ws) = cond (eqb w.id id) (w ∷ waits_in id ws) (waits_in id ws)

abbrev pub queue_of : ℕ → RegionEntry → Receipts → List Wait
queue_of id e t = insert_all (urgent_than e.order) [] (waits_in id t.waits)

-- ALL WAITS IN ONE LINE: the region of the lower slot first, and within a region by its order
abbrev pub order_in : Option RegionEntry → Order
order_in None = Fifo
order_in (Some e) = e.order

abbrev pub orders : Receipts → ℕ → Order
orders t id = order_in (t.regions id)

unfoldable pub stands_before : (ℕ → Order) → Wait → Wait → Bool
stands_before o w x =
    ltb (slot_of w.id) (slot_of x.id)
    || (eqb (slot_of w.id) (slot_of x.id) && ltb (rank (o w.id) w) (rank (o x.id) x))

abbrev pub in_line : Receipts → List Wait
in_line t = insert_all (stands_before (orders t)) [] t.waits

-- TIME-OUTS: of a list of waits, those whose ticks run out at this tick, by the ticks counted since they began
unfoldable pub due_in : List Wait → List Notice
due_in [] = []
due_in (w ∷ ws) =
    cond (eqb w.ticks (w.since + 1)) (record { task = w.task; status = Timeout; address = 0 } ∷ due_in ws) (due_in ws)

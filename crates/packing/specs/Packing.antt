-- The manager record as words that a caller keeps: the regions, the partitions and the waiters, slot by slot and field by field.
-- Assumes nothing.
use Rattle.std.specs.Prelude.{ℕ, zero, suc, ◌+◌, ◌*◌, Bool, true, cond, ◌&&◌, List, [], ◌∷◌, ◌++◌, length, get_or, eqb, leb, Option, Some, None, take, drop}
use Rattle.manager.specs.Record.{slots, tasks}
use Rattle.manager.specs.declared.Manager.{Manager}
use Rattle.manager.specs.declared.Region.{Region}
use Rattle.manager.specs.declared.Partition.{Partition}
use Rattle.manager.specs.declared.Waiter.{Waiter}
use Rattle.manager.specs.declared.Notice.{Notice}
use Rattle.manager.specs.declared.Information.{Information}
use Rattle.manager.specs.Status.{number_of}
use Rattle.manager.specs.declared.Order.{Order}
use Rattle.manager.specs.declared.Order.TheVariants.{Fifo, Priority, HalvesFifo, HalvesPriority}

-- how many words an element of each kind has
abbrev pub region_size : ℕ
region_size = 6

abbrev pub partition_size : ℕ
partition_size = 8

abbrev pub waiter_size : ℕ
waiter_size = 6

-- where the partitions and the waiters start, and how many words a record has
abbrev pub partitions_at : ℕ
partitions_at = region_size * slots

abbrev pub waiters_at : ℕ
waiters_at = partitions_at + partition_size * slots

abbrev pub record_words : ℕ
record_words = waiters_at + waiter_size * tasks

-- an order as a word, and back; a word above 3 is no order
abbrev pub order_word : Order → ℕ
order_word Fifo = 0
order_word Priority = 1
order_word HalvesFifo = 2
order_word HalvesPriority = 3

-- the largest word that is an order
abbrev pub last_order : ℕ
last_order = 3

abbrev pub order_at : ℕ → Order
order_at zero = Fifo
order_at (suc zero) = Priority
order_at (suc (suc zero)) = HalvesFifo
order_at (suc (suc (suc w))) = HalvesPriority

abbrev pub region_words : Region → List ℕ
region_words r = r.name ∷ r.generation ∷ r.start ∷ r.length ∷ r.page ∷ order_word r.order ∷ []

abbrev pub partition_words : Partition → List ℕ
partition_words p = p.name ∷ p.generation ∷ p.start ∷ p.length ∷ p.size ∷ p.front ∷ p.rear ∷ p.free ∷ []

abbrev pub waiter_words : Waiter → List ℕ
waiter_words w = w.task ∷ w.region ∷ w.size ∷ w.alignment ∷ w.priority ∷ w.ticks ∷ []

-- what an answer has besides: a notice, and information
abbrev pub notice_words : Notice → List ℕ
notice_words n = n.task ∷ number_of n.status ∷ n.address ∷ []

abbrev pub information_words : Information → List ℕ
information_words i = i.free_count ∷ i.free_largest ∷ i.free_total ∷ i.held_count ∷ i.held_largest ∷ i.held_total ∷ []

module _ {A : Type 0} where
  -- the words of all elements
  unfoldable pub all_words : (A → List ℕ) → List A → List ℕ
  all_words f [] = []
  all_words f (x ∷ xs) = f x ++ all_words f xs

  -- so many elements read from the words at i on, each of `size` words
  unfoldable pub all_at : (List ℕ → ℕ → A) → ℕ → ℕ → List ℕ → ℕ → List A
  all_at f size zero ws i = []
  all_at f size (suc n) ws i = f ws i ∷ all_at f size n ws (i + size)

unfoldable pub pack : Manager → List ℕ
pack d = all_words region_words d.regions ++ (all_words partition_words d.partitions ++ all_words waiter_words d.waiters)

abbrev pub region_at : List ℕ → ℕ → Region
region_at ws i =
    record {
      name = get_or ws i 0;
      generation = get_or ws (i + 1) 0;
      start = get_or ws (i + 2) 0;
      length = get_or ws (i + 3) 0;
      page = get_or ws (i + 4) 0;
      order = order_at (get_or ws (i + 5) 0);
    }

abbrev pub partition_at : List ℕ → ℕ → Partition
partition_at ws i =
    record {
      name = get_or ws i 0;
      generation = get_or ws (i + 1) 0;
      start = get_or ws (i + 2) 0;
      length = get_or ws (i + 3) 0;
      size = get_or ws (i + 4) 0;
      front = get_or ws (i + 5) 0;
      rear = get_or ws (i + 6) 0;
      free = get_or ws (i + 7) 0;
    }

abbrev pub waiter_at : List ℕ → ℕ → Waiter
waiter_at ws i =
    record {
      task = get_or ws i 0;
      region = get_or ws (i + 1) 0;
      size = get_or ws (i + 2) 0;
      alignment = get_or ws (i + 3) 0;
      priority = get_or ws (i + 4) 0;
      ticks = get_or ws (i + 5) 0;
    }

abbrev pub information_at : List ℕ → ℕ → Information
information_at ws i =
    record {
      free_count = get_or ws i 0;
      free_largest = get_or ws (i + 1) 0;
      free_total = get_or ws (i + 2) 0;
      held_count = get_or ws (i + 3) 0;
      held_largest = get_or ws (i + 4) 0;
      held_total = get_or ws (i + 5) 0;
    }

-- what the six words of a region say: nothing where its order is none
abbrev pub region_said : List ℕ → Option Region
region_said ws = cond (leb (get_or ws 5 0) last_order) (Some (region_at ws 0)) None

-- elements said by the words one behind the other, each by `size` words; none where they end or the words of one say none
module _ {A : Type 0} where
  abbrev pub before : Option A → Option (List A) → Option (List A)
  before None l = None
  before (Some x) None = None
  before (Some x) (Some l) = Some (x ∷ l)

  unfoldable pub all_said : (List ℕ → Option A) → ℕ → ℕ → List ℕ → Option (List A)
  all_said f size zero ws = Some []
  all_said f size (suc n) ws = cond (leb size (length ws)) (before (f (take size ws)) (all_said f size n (drop size ws))) None

-- the words say a record: their number is right, and each order is one
unfoldable pub choices : ℕ → List ℕ → ℕ → Bool
choices zero ws i = true
choices (suc n) ws i = leb (get_or ws (i + 5) 0) last_order && choices n ws (i + region_size)

abbrev pub well_formed : List ℕ → Bool
well_formed ws = eqb (length ws) record_words && choices slots ws 0

unfoldable pub unpack : List ℕ → Manager
unpack ws =
    record {
      regions = all_at region_at region_size slots ws 0;
      partitions = all_at partition_at partition_size slots ws partitions_at;
      waiters = all_at waiter_at waiter_size tasks ws waiters_at;
    }

-- what the words say, if they say a record
abbrev pub unpacked : List ℕ → Option Manager
unpacked ws = cond (well_formed ws) (Some (unpack ws)) None

-- the words after a record is put into them: none change where their number is wrong
abbrev pub packed : Manager → List ℕ → List ℕ
packed d ws = cond (eqb (length ws) record_words) (pack d) ws

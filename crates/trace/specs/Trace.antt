-- Rule 14.4, demand 3: every list of calls from a fresh start, refused ones included, with clients writing what they like into what
-- they hold. Assumes nothing.
use Rattle.std.specs.Prelude.{◌≡◌, List, ℕ, ◌+◌, ◌*◌, ◌≤◌, ◌<◌, length, get_or, Some}
use Rattle.manager.specs.Record.{fresh}
use Rattle.manager.specs.Result.{Result}
use Rattle.manager.specs.Perform.{Implementation}
use Rattle.manager.specs.declared.Manager.{Manager}
use Rattle.manager.specs.declared.Call.{Call}
use Rattle.manager.specs.Lists.{In}
use Rattle.trace.specs.Loans.{Lent}
use Rattle.trace.specs.Receipts.{Receipts, RegionEntry, PartitionEntry, blank, unit, reply_of}
use Rattle.trace.specs.Replies.{note}

-- one of a list of calls: a directive, or a read or write of a held segment
pub data Ask : Type 0 where
  call : Call → Ask
  read : ℕ → ℕ → Ask
  write : ℕ → ℕ → ℕ → List ℕ → Ask

-- the memory, the manager record, and the receipts beside them
pub record State : Type 0 where
  pub memory : List ℕ
  pub manager : Manager
  pub receipts : Receipts

-- a fresh start over any memory
abbrev pub start : List ℕ → State
start m = record { memory = m; manager = fresh; receipts = blank }

-- what a call of a directive, and a write of a held segment, is answered in a state
abbrev pub answer : Implementation → State → Call → Result
answer i s c = i.call s.memory s.manager c

abbrev pub answer_write : Implementation → State → ℕ → ℕ → ℕ → List ℕ → Result
answer_write i s id address first words = i.write s.memory s.manager id address first words

-- each call gets what the last one left; the receipts go by its arguments and its answer
unfoldable pub after : Implementation → Ask → State → State
after i (call c) s =
    let a = answer i s c in
    record { memory = a.memory; manager = a.manager; receipts = note c (reply_of a) s.receipts }
after i (read id address) s = s
after i (write id address first words) s =
    let a = answer_write i s id address first words in
    record { memory = a.memory; manager = a.manager; receipts = s.receipts }

-- an object: of a kind, under an id
pub data Object : Type 0 where
  region : ℕ → Object
  partition : ℕ → Object

-- the bytes of an object's loan: from an address on, so many
pub data Loaned (t : Receipts) : Object → ℕ → ℕ → Type 0 where
  segment : {id a : ℕ} (e : RegionEntry) → t.regions id ≡ Some e → (k : ℕ) → Lent e.loans a k → Loaned t (region id) a (k * unit e)
  buffer : {id a : ℕ} (e : PartitionEntry) → t.partitions id ≡ Some e → In a e.lent → Loaned t (partition id) a e.size

-- word i is of what clients hold
abbrev pub Owned : Receipts → ℕ → Type 0
Owned t i = (o : Object) × (a n : ℕ) × Loaned t o a n × (a ≤ 4 * i) × (4 * i < a + n)

-- between calls clients write any values into the words of what they hold, and nobody else changes a word
pub record ClientsWrite (t : Receipts) (m m' : List ℕ) : Type 0 where
  pub size : length m' ≡ length m
  pub others : (i : ℕ) → ¬ Owned t i → get_or m' i 0 ≡ get_or m i 0

-- EVERY LIST OF CALLS, and the writes between them
pub data Runs (i : Implementation) : State → State → Type 0 where
  end : {s : State} → Runs i s s
  ask : {s t : State} (a : Ask) → Runs i (after i a s) t → Runs i s t
  clients : {s t : State} (m' : List ℕ) → ClientsWrite s.receipts s.memory m'
      → Runs i (record { memory = m'; manager = s.manager; receipts = s.receipts }) t → Runs i s t

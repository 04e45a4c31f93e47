-- What serving a region's queue needs and leaves. Assumes nothing.
use Rattle.std.specs.Prelude.{Option, None, Some, ℕ, ◌+◌, ◌≤◌, ◌≡◌, Bool, true, cond, not, ◌||◌, List, [], ◌++◌, eqb, leb, ltb, get_or, length}
use Rattle.manager.specs.Record.{slots, tasks, no_waiter, region_of}
use Rattle.manager.specs.Lists.{every, count}
use Rattle.manager.specs.Region.{address_of, need_of, placed, taken}
use Rattle.manager.specs.Queue.{first_of}
use Rattle.manager.specs.Kind.{on_place}
use Rattle.manager.specs.Serve.{granted, Served}
use Rattle.manager.specs.Sound.{Sited}
use Rattle.manager.specs.declared.Manager.{Manager}
use Rattle.manager.specs.declared.Region.{Region}
use Rattle.manager.specs.declared.Waiter.{Waiter}
use Rattle.manager.specs.declared.Need.{Need}
use Rattle.manager.specs.declared.Notice.{Notice}
use Rattle.reply.specs.Notices.{Notices, Padded, told}
use Rattle.reply.specs.declared.Noticed.{Noticed}

-- a waiter asks for something
abbrev pub asks : Waiter → Bool
asks w = eqb w.task 0 || leb 1 w.size

abbrev pub Asking : Manager → Type 0
Asking d = every asks d.waiters ≡ true

-- by what a turn comes to: the waiter at a place of the queue gets its notice, or nobody can be served
abbrev pub on_turn : {A : Type 0} → Option (ℕ × Notice) → (ℕ → Notice → A) → A → A
on_turn None f z = z
on_turn (Some t) f z = f t.0 t.1

-- the turn of the first waiter of a region, and the memory after it
abbrev pub need_first : Manager → ℕ → Need
need_first d id =
    let w = get_or d.waiters (first_of id d.waiters) no_waiter in
    need_of (region_of d id) w.size w.alignment

unfoldable pub turn_of : List ℕ → Manager → ℕ → Option (ℕ × Notice)
turn_of m d id =
    let i = first_of id d.waiters in
    cond (ltb i tasks)
    (on_place (placed m (region_of d id) (need_first d id)) (λ p. Some (i, granted (get_or d.waiters i no_waiter) (address_of (region_of d id) p))) None)
    None

pub record Turns (m : List ℕ) (d : Manager) (id : ℕ) (r : Region) (out : List ℕ) (t : Option (ℕ × Notice)) : Type 0 where
  pub turn : t ≡ turn_of m d id
  pub memory : out ≡ on_turn t (λ i n. taken m (region_of d id) (need_first d id)) m
  pub sited : Sited out r

-- how many places of the queue are used
abbrev pub used : List Waiter → ℕ
used ws = count (λ w. not (eqb w.task 0)) ws

-- notices so far, and their record: every waiter asks for something, the queue has its places, and behind the notices there is a place for each
-- who waits
pub record Ready (n : Noticed) : Type 0 where
  pub notices : Padded n
  pub asking : Asking n.manager
  pub places : length n.manager.waiters ≡ tasks
  pub fits : n.count + used n.manager.waiters ≤ tasks

-- nobody was told anything, and the record has its places
pub record Fresh (n : Noticed) : Type 0 where
  pub nobody : Notices n.manager [] n
  pub places : length n.manager.waiters ≡ tasks
  pub slots : length n.manager.regions ≡ slots

-- the memory and the record are those of the definition, and so are the notices, behind those so far
pub record Serves (before : Noticed) (s : Served) (m : List ℕ) (n : Noticed) : Type 0 where
  pub memory : m ≡ s.memory
  pub told : Notices s.manager (told before ++ s.notices) n
  pub ready : Ready n

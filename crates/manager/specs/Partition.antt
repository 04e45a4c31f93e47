-- Rules 9: the buffers of a partition and the chain of the free ones. Assumes nothing.
use Rattle.std.specs.Prelude.{ℕ, zero, suc, ◌+◌, ◌-◌, ◌*◌, ◌/◌, ◌%◌, Bool, cond, ◌&&◌, List, [], ◌∷◌, get_or, set, eqb, leb, ltb}
use Rattle.manager.specs.Lists.{any}
use Rattle.manager.specs.declared.Partition.{Partition}

-- an empty slot has no name
abbrev pub dead_partition : Partition → Bool
dead_partition p = eqb p.name 0

-- There are length / size buffers, rounded down, from the start
abbrev pub buffers : Partition → ℕ
buffers p = p.length / p.size

abbrev pub buffer_at : Partition → ℕ → ℕ
buffer_at p k = p.start + k * p.size

-- an address is a buffer's
abbrev pub is_buffer : Partition → ℕ → Bool
is_buffer p a = leb p.start a && (eqb ((a - p.start) % p.size) 0 && ltb ((a - p.start) / p.size) (buffers p))

-- word 0 of a free buffer is the next buffer's address, word 1 the one before
abbrev pub next_of : List ℕ → ℕ → ℕ
next_of m a = get_or m (a / 4) 0

abbrev pub before_of : List ℕ → ℕ → ℕ
before_of m a = get_or m (a / 4 + 1) 0

abbrev pub set_next : List ℕ → ℕ → ℕ → List ℕ
set_next m a v = set m (a / 4) v

abbrev pub set_before : List ℕ → ℕ → ℕ → List ℕ
set_before m a v = set m (a / 4 + 1) v

abbrev pub link : List ℕ → ℕ → ℕ → ℕ → List ℕ
link m a next before = set_before (set_next m a next) a before

-- the buffers met from an address on by word 0, so many
unfoldable pub follow : ℕ → List ℕ → ℕ → List ℕ
follow zero m a = []
follow (suc n) m a = a ∷ follow n m (next_of m a)

-- the chain of the free buffers, and whether one is on it
abbrev pub chain : List ℕ → Partition → List ℕ
chain m p = follow p.free m p.front

abbrev pub is_free : List ℕ → Partition → ℕ → Bool
is_free m p a = any (eqb a) (chain m p)

-- a chain of n buffers from an address on, behind the buffer `before`: real buffers, links agreeing both ways, up to the kept rear,
-- 0 at the ends
unfoldable pub linked : ℕ → List ℕ → Partition → ℕ → ℕ → Bool
linked zero m p before a = eqb a 0 && eqb before p.rear
linked (suc n) m p before a = is_buffer p a && (eqb (before_of m a) before && linked n m p a (next_of m a))

abbrev pub sound_chain : List ℕ → Partition → Bool
sound_chain m p = linked p.free m p 0 p.front

-- Create chains all by address and touches no other word: the buffers from k on, `left` of them
unfoldable pub link_all : ℕ → List ℕ → Partition → ℕ → List ℕ
link_all zero m p k = m
link_all (suc left) m p k =
    link_all left (link m (buffer_at p k) (cond (eqb left 0) 0 (buffer_at p (k + 1))) (cond (eqb k 0) 0 (buffer_at p (k - 1)))) p (k + 1)

-- Get takes the front and leaves 0 in both its link words; the next buffer is the front then
unfoldable pub after_get : List ℕ → Partition → List ℕ
after_get m p =
    let n = next_of m p.front in
    let t = link m p.front 0 0 in
    cond (eqb n 0) t (set_before t n 0)

abbrev pub gotten : List ℕ → Partition → Partition
gotten m p =
    let n = next_of m p.front in
    record {
      name = p.name;
      generation = p.generation;
      start = p.start;
      length = p.length;
      size = p.size;
      front = n;
      rear = cond (eqb n 0) 0 p.rear;
      free = p.free - 1;
    }

-- return adds at the rear
unfoldable pub after_return : List ℕ → Partition → ℕ → List ℕ
after_return m p a = cond (eqb p.free 0) (link m a 0 0) (link (set_next m p.rear a) a 0 p.rear)

abbrev pub returned : Partition → ℕ → Partition
returned p a =
    record {
      name = p.name;
      generation = p.generation;
      start = p.start;
      length = p.length;
      size = p.size;
      front = cond (eqb p.free 0) a p.front;
      rear = a;
      free = p.free + 1;
    }

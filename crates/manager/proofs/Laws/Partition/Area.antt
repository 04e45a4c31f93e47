-- A get, a return and a create touch no word outside the partition's area, and its chain rests on the words of its area alone. Assumes
-- nothing.
use Prim.Native.Nat.{ℕ, zero, suc, ◌+◌, ◌-◌, ◌/◌, ◌≤◌, ◌<◌}
use mathlib.Core.Path.{◌≡◌, refl, ap, sym, ◌∙◌}
use mathlib.Core.Bool.{true}
use mathlib.Core.List.{List}
use mathlib.Core.Logic.{◌⊎◌, ⊎_elim}
use native.Mathlib.Omega.{arith}
use lib.ListN.{length, get_or, length-set}
use lib.Seq.{get_or-set_other}
use lib.Dec.{eqb}
use Rattle.manager.specs.Lists.{any}
use Rattle.manager.specs.Partition.{buffers, buffer_at, is_buffer, next_of, set_next, link, follow, is_free, linked, sound_chain, link_all, after_get, after_return}
use Rattle.manager.proofs.Laws.Distinct.{On, same_or_not, on_head, on_tail}
use Rattle.manager.specs.declared.Partition.{Partition}
use Rattle.manager.proofs.Laws.Partition.Buffers.{Buffer, buffer_of, buffer_at_lem, placed}
use Rattle.manager.proofs.Laws.Partition.Chain.{linked_rest, linked_last, rear_on}
use Rattle.manager.proofs.Laws.Partition.Repeats.{chain_buffer}
use Rattle.manager.proofs.Laws.Partition.Links.{chain_front, after_last, after_get_lem, return_first, return_behind}
use Rattle.manager.proofs.Laws.Partition.Created.{link_length, all_clear}
use Rattle.manager.specs.Sound.{Shaped}

-- a word that is not wholly within the partition's area
abbrev pub Outside : Partition → ℕ → Type 0
Outside p i = (i < p.start / 4) ⊎ ((p.start + p.length) / 4 ≤ i)

module _ (p : Partition) (s : Shaped p) where
  pub outside_clear : (i a : ℕ) → Outside p i → Buffer p a → (i ≡ a / 4 → ⊥) × (i ≡ a / 4 + 1 → ⊥)
  outside_clear i a o b =
      let q = placed p s a b in (
        λ e. ⊎_elim (λ (h : i < p.start / 4). omega (arith, q.low)) (λ (h : (p.start + p.length) / 4 ≤ i). omega (arith, q.high, s.big)) o,
        λ e. ⊎_elim (λ (h : i < p.start / 4). omega (arith, q.low)) (λ (h : (p.start + p.length) / 4 ≤ i). omega (arith, q.high, s.big)) o,
      )

  -- create, get and return leave them as they were, and the memory's length
  pub create_outside : (m : List ℕ) (i : ℕ) → Outside p i → get_or (link_all (buffers p) m p 0) i 0 ≡ get_or m i 0
  create_outside m i o =
      all_clear (buffers p) m p 0 i (λ j x y. outside_clear i (buffer_at p j) o (buffer_at_lem p s j (omega arith)))

-- the words that a get and a return write, and no others
pub get_length : (m : List ℕ) (p : Partition) → length (after_get m p) ≡ length m
get_length m p =
    let f = p.front in
    let n = next_of m f in
    ⊎_elim
    (λ (e : n ≡ 0). ap length (after_last m p e) ∙ link_length m f 0 0)
    (λ (e : n ≡ 0 → ⊥). ap length (after_get_lem m p e) ∙ length-set (link m f 0 0) (n / 4 + 1) 0 ∙ link_length m f 0 0)
    (same_or_not n 0)

pub return_length : (m : List ℕ) (p : Partition) (a : ℕ) → length (after_return m p a) ≡ length m
return_length m p a =
    ⊎_elim
    (λ (e : p.free ≡ 0). ap length (return_first m p a e) ∙ link_length m a 0 0)
    (λ (e : p.free ≡ 0 → ⊥).
    ap length (return_behind m p a e) ∙ link_length (set_next m p.rear a) a 0 p.rear ∙ length-set m (p.rear / 4) a)
    (same_or_not p.free 0)

pub link_clear : (m : List ℕ) (a next before i : ℕ) → (i ≡ a / 4 → ⊥) → (i ≡ a / 4 + 1 → ⊥) → get_or (link m a next before) i 0 ≡ get_or m i 0
link_clear m a next before i h k = get_or-set_other (set_next m a next) (a / 4 + 1) i before 0 k ∙ get_or-set_other m (a / 4) i next 0 h

pub get_clear : (m : List ℕ) (p : Partition) (i : ℕ) → (i ≡ p.front / 4 → ⊥) → (i ≡ p.front / 4 + 1 → ⊥)
    → ((next_of m p.front ≡ 0 → ⊥) → i ≡ next_of m p.front / 4 + 1 → ⊥) → get_or (after_get m p) i 0 ≡ get_or m i 0
get_clear m p i h k l =
    let f = p.front in
    let n = next_of m f in
    ⊎_elim
    (λ (e : n ≡ 0). rw (after_last m p e) (link_clear m f 0 0 i h k))
    (λ (e : n ≡ 0 → ⊥). rw (after_get_lem m p e) (get_or-set_other (link m f 0 0) (n / 4 + 1) i 0 0 (l e) ∙ link_clear m f 0 0 i h k))
    (same_or_not n 0)

pub return_clear : (m : List ℕ) (p : Partition) (a i : ℕ) → (i ≡ a / 4 → ⊥) → (i ≡ a / 4 + 1 → ⊥)
    → ((p.free ≡ 0 → ⊥) → i ≡ p.rear / 4 → ⊥) → get_or (after_return m p a) i 0 ≡ get_or m i 0
return_clear m p a i h k l =
    ⊎_elim
    (λ (e : p.free ≡ 0). rw (return_first m p a e) (link_clear m a 0 0 i h k))
    (λ (e : p.free ≡ 0 → ⊥).
    rw (return_behind m p a e)
    (link_clear (set_next m p.rear a) a 0 p.rear i h k ∙ get_or-set_other m (p.rear / 4) i a 0 (l e)))
    (same_or_not p.free 0)

module _ (m : List ℕ) (p : Partition) (s : Shaped p) (e : sound_chain m p ≡ true) where
  -- the buffers whose links they write are on the chain
  pub front_free : 0 < p.free → is_free m p p.front ≡ true
  front_free h = rw (chain_front m p h) (on_head p.front p.front (follow (p.free - 1) m (next_of m p.front)) refl)

  rear_from : (n : ℕ) → p.free ≡ n → (n ≡ 0 → ⊥) → is_free m p p.rear ≡ true
  rear_from zero z h = absurd (h refl)
  rear_from (suc n) z h =
      let f : linked (suc n) m p 0 p.front ≡ true = ap (λ (k : ℕ). linked k m p 0 p.front) (sym z) ∙ e in
      ap (λ (k : ℕ). any (eqb p.rear) (follow k m p.front)) z ∙ rear_on m p n 0 p.front f

  pub rear_free : (p.free ≡ 0 → ⊥) → is_free m p p.rear ≡ true
  rear_free h = rear_from p.free refl h

  next_from : (n a before : ℕ) → linked (suc n) m p before a ≡ true → (next_of m a ≡ 0 → ⊥) → On (next_of m a) (follow n m (next_of m a))
  unfolding follow
  next_from zero a before f h = absurd (h (linked_last m p a (next_of m a) (linked_rest m p 0 before a f)))
  next_from (suc n) a before f h = on_head (next_of m a) (next_of m a) (follow n m (next_of m (next_of m a))) refl

  pub next_free : 0 < p.free → (next_of m p.front ≡ 0 → ⊥) → is_free m p (next_of m p.front) ≡ true
  next_free h z =
      let n = next_of m p.front in
      let l = follow (p.free - 1) m n in
      let q : suc (p.free - 1) ≡ p.free = omega arith in
      let f : linked (suc (p.free - 1)) m p 0 p.front ≡ true = ap (λ (k : ℕ). linked k m p 0 p.front) q ∙ e in
      rw (chain_front m p h) (on_tail n p.front l (next_from (p.free - 1) p.front 0 f z))

  free_buffer : (x : ℕ) → is_free m p x ≡ true → Buffer p x
  free_buffer x q = buffer_of p s x (chain_buffer m p s e x q)

  module _ (i : ℕ) where
    -- no word is written that is no link of a buffer on the chain, or of the returned one
    pub get_only : ((x : ℕ) → is_free m p x ≡ true → (i ≡ x / 4 → ⊥) × (i ≡ x / 4 + 1 → ⊥)) → 0 < p.free → get_or (after_get m p) i 0 ≡ get_or m i 0
    get_only h k =
        let u = h p.front (front_free k) in
        get_clear m p i u.0 u.1 (λ z. (h (next_of m p.front) (next_free k z)).1)

    pub return_only : (a : ℕ) → ((x : ℕ) → is_free m p x ≡ true → (i ≡ x / 4 → ⊥) × (i ≡ x / 4 + 1 → ⊥)) → (i ≡ a / 4 → ⊥) → (i ≡ a / 4 + 1 → ⊥)
        → get_or (after_return m p a) i 0 ≡ get_or m i 0
    return_only a h k l = return_clear m p a i k l (λ z. (h p.rear (rear_free z)).0)

    -- none outside the area
    pub get_outside : Outside p i → 0 < p.free → get_or (after_get m p) i 0 ≡ get_or m i 0
    get_outside o k = get_only (λ x q. outside_clear p s i x o (free_buffer x q)) k

    pub return_outside : Outside p i → (a : ℕ) → is_buffer p a ≡ true → get_or (after_return m p a) i 0 ≡ get_or m i 0
    return_outside o a q =
        let u = outside_clear p s i a o (buffer_of p s a q) in
        return_only a (λ x r. outside_clear p s i x o (free_buffer x r)) u.0 u.1

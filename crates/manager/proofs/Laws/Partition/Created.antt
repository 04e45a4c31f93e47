-- Create chains all buffers by address. Assumes nothing.
use Prim.Native.Nat.{ℕ, zero, suc, ◌+◌, ◌-◌, ◌*◌, ◌/◌, ◌≤◌, ◌<◌}
use mathlib.Core.Path.{◌≡◌, refl, ap, sym, ◌∙◌}
use mathlib.Core.Bool.{true, cond}
use mathlib.Core.List.{List, [], ◌∷◌}
use mathlib.Core.Logic.{⊎_elim}
use native.Mathlib.Omega.{arith}
use lib.ListN.{length, get_or, length-set}
use lib.Seq.{get_or-set_same, get_or-set_other}
use lib.Dec.{eqb}
use borrow.Author.Tests.{ne_eqb}
use Rattle.manager.specs.Partition.{buffers, buffer_at, is_buffer, next_of, before_of, set_next, link, follow, chain, linked, sound_chain, link_all}
use Rattle.manager.proofs.Laws.Distinct.{same_or_not}
use Rattle.manager.specs.Sound.{inside, Shaped, LaidPartition}
use Rattle.manager.specs.declared.Partition.{Partition}
use Rattle.manager.proofs.Laws.Partition.Buffers.{Buffer, of_buffer, buffer_at_lem, placed, further, words_cross, words_apart}
use Rattle.manager.proofs.Laws.Partition.Chain.{linked_more, linked_end}

-- the links of buffer k of n, by address, and where the chain of the last n of them starts
abbrev pub next_address : Partition → ℕ → ℕ → ℕ
next_address p n k = cond (eqb (n - (k + 1)) 0) 0 (buffer_at p (k + 1))

abbrev pub before_address : Partition → ℕ → ℕ
before_address p k = cond (eqb k 0) 0 (buffer_at p (k - 1))

abbrev starts_at : Partition → ℕ → ℕ → ℕ
starts_at p n k = cond (eqb n 0) 0 (buffer_at p k)

-- the addresses of n buffers from number k on
unfoldable pub addresses : ℕ → Partition → ℕ → List ℕ
addresses zero p k = []
addresses (suc n) p k = buffer_at p k ∷ addresses n p (k + 1)

abbrev link_one : ℕ → List ℕ → Partition → ℕ → List ℕ
link_one left m p k = link m (buffer_at p k) (cond (eqb left 0) 0 (buffer_at p (k + 1))) (before_address p k)

pub link_length : (m : List ℕ) (a next before : ℕ) → length (link m a next before) ≡ length m
link_length m a next before = length-set (set_next m a next) (a / 4 + 1) before ∙ length-set m (a / 4) next

pub all_length : (left : ℕ) (m : List ℕ) (p : Partition) (k : ℕ) → length (link_all left m p k) ≡ length m
unfolding link_all
all_length zero m p k = refl
all_length (suc left) m p k = all_length left (link_one left m p k) p (k + 1) ∙ link_length m (buffer_at p k) _ _

-- a word that is no link of the buffers from number k on, `left` of them
abbrev Clear : Partition → ℕ → ℕ → ℕ → Type 0
Clear p left k i = (j : ℕ) → k ≤ j → j < k + left → (i ≡ buffer_at p j / 4 → ⊥) × (i ≡ buffer_at p j / 4 + 1 → ⊥)

pub all_clear : (left : ℕ) (m : List ℕ) (p : Partition) (k i : ℕ) → Clear p left k i → get_or (link_all left m p k) i 0 ≡ get_or m i 0
unfolding link_all
all_clear zero m p k i h = refl
all_clear (suc left) m p k i h =
    let u = h k (omega arith) (omega arith) in
    all_clear left (link_one left m p k) p (k + 1) i (λ j x y. h j (omega arith) (omega arith))
    ∙ get_or-set_other (set_next m (buffer_at p k) (cond (eqb left 0) 0 (buffer_at p (k + 1)))) (buffer_at p k / 4 + 1) i (before_address p k) 0 u.1
    ∙ get_or-set_other m (buffer_at p k / 4) i (cond (eqb left 0) 0 (buffer_at p (k + 1))) 0 u.0

module _ (p : Partition) (s : Shaped p) (n : ℕ) (few : n ≤ buffers p) where
  -- the words of one buffer are no links of later ones
  clear_next : (left k : ℕ) → k + 1 + left ≡ n → Clear p left (k + 1) (buffer_at p k / 4)
  clear_next left k e j x y =
      let bk = buffer_at_lem p s k (omega arith) in
      let bj = buffer_at_lem p s j (omega arith) in
      let z : buffer_at p k ≡ buffer_at p j → ⊥ = λ q. omega (arith, further p s k j (omega arith), s.big, q) in
      (words_apart p s (buffer_at p k) (buffer_at p j) bk bj z, words_cross p s (buffer_at p k) (buffer_at p j) bk bj)

  clear_before : (left k : ℕ) → k + 1 + left ≡ n → Clear p left (k + 1) (buffer_at p k / 4 + 1)
  clear_before left k e j x y =
      let bk = buffer_at_lem p s k (omega arith) in
      let bj = buffer_at_lem p s j (omega arith) in
      let z : buffer_at p k ≡ buffer_at p j → ⊥ = λ q. omega (arith, further p s k j (omega arith), s.big, q) in (
        λ q. words_cross p s (buffer_at p j) (buffer_at p k) bj bk (sym q),
        λ q. words_apart p s (buffer_at p k) (buffer_at p j) bk bj z (omega arith),
      )

  -- what they are after create
  module _ (m : List ℕ) (inside : p.start + p.length ≤ 4 * length m) (k left : ℕ) (e : k + 1 + left ≡ n) where
    bk : Buffer p (buffer_at p k)
    bk = buffer_at_lem p s k (omega arith)

    one_next : next_of (link_all left (link_one left m p k) p (k + 1)) (buffer_at p k) ≡ next_address p n k
    one_next =
        let a = buffer_at p k in
        let v = cond (eqb left 0) 0 (buffer_at p (k + 1)) in
        let z : left ≡ n - (k + 1) = omega arith in
        all_clear left (link_one left m p k) p (k + 1) (a / 4) (clear_next left k e)
        ∙ get_or-set_other (set_next m a v) (a / 4 + 1) (a / 4) (before_address p k) 0 (words_cross p s a a bk bk)
        ∙ get_or-set_same m (a / 4) v 0 (omega (arith, (placed p s a bk).high, s.big))
        ∙ ap (λ (x : ℕ). cond (eqb x 0) 0 (buffer_at p (k + 1))) z

    one_before : before_of (link_all left (link_one left m p k) p (k + 1)) (buffer_at p k) ≡ before_address p k
    one_before =
        let a = buffer_at p k in
        let v = cond (eqb left 0) 0 (buffer_at p (k + 1)) in
        all_clear left (link_one left m p k) p (k + 1) (a / 4 + 1) (clear_before left k e)
        ∙ get_or-set_same (set_next m a v) (a / 4 + 1) (before_address p k) 0
        (omega (arith, (placed p s a bk).high, s.big, length-set m (a / 4) v))

  all_links : (left : ℕ) (m : List ℕ) (k : ℕ) → p.start + p.length ≤ 4 * length m → k + left ≡ n → (j : ℕ) → k ≤ j → j < n
      → (next_of (link_all left m p k) (buffer_at p j) ≡ next_address p n j) × (before_of (link_all left m p k) (buffer_at p j) ≡ before_address p j)
  unfolding link_all
  all_links zero m k inside e j x y = absurd (omega arith)
  all_links (suc left) m k inside e j x y =
      let z : k + 1 + left ≡ n = omega arith in
      let i : p.start + p.length ≤ 4 * length (link_one left m p k) =
      omega (arith, link_length m (buffer_at p k) (cond (eqb left 0) 0 (buffer_at p (k + 1))) (before_address p k)) in
      ⊎_elim
      (λ (q : j ≡ k). rw q (one_next m inside k left z, one_before m inside k left z))
      (λ (q : j ≡ k → ⊥). all_links left (link_one left m p k) (k + 1) i z j (omega arith) y)
      (same_or_not j k)

-- ALL BUFFERS, BY ADDRESS: what create leaves is a sound chain of them
pub record Created (p : Partition) : Type 0 where
  pub front : p.front ≡ p.start
  pub rear : p.rear ≡ buffer_at p (buffers p - 1)
  pub free : p.free ≡ buffers p
  pub some_in : 0 < buffers p

module _ (m : List ℕ) (p : Partition) (g : LaidPartition m p) (c : Created p) where
  all_from : (n k : ℕ) → k + n ≡ buffers p
      → (linked n (link_all (buffers p) m p 0) p (before_address p k) (starts_at p n k) ≡ true)
      × (follow n (link_all (buffers p) m p 0) (starts_at p n k) ≡ addresses n p k)
  unfolding follow addresses
  all_from zero k e =
      let z : k ≡ 0 → ⊥ = λ q. omega (arith, c.some_in) in
      let w : k - 1 ≡ buffers p - 1 = omega arith in
      let b : before_address p k ≡ p.rear = rw (ne_eqb _ _ z, w) (sym c.rear) in
      (linked_end (link_all (buffers p) m p 0) p (before_address p k) 0 refl b, refl)
  all_from (suc n) k e =
      let M = link_all (buffers p) m p 0 in
      let x = buffer_at p k in
      let z : suc n ≡ 0 → ⊥ = λ q. omega arith in
      let l = all_links p g.shaped (buffers p) (omega arith) (buffers p) m 0 g.inside (omega arith) k (omega arith) (omega arith) in
      let r = all_from n (k + 1) (omega arith) in
      let u : buffers p - (k + 1) ≡ n = omega arith in
      let v : next_of M x ≡ starts_at p n (k + 1) = l.0 ∙ ap (λ (t : ℕ). cond (eqb t 0) 0 (buffer_at p (k + 1))) u in
      let k1 : k + 1 ≡ 0 → ⊥ = λ q. omega arith in
      let k2 : k + 1 - 1 ≡ k = omega arith in
      let w : before_address p (k + 1) ≡ x = rw (ne_eqb _ _ k1, k2) in
      let ib : is_buffer p x ≡ true = of_buffer p g.shaped x (buffer_at_lem p g.shaped k (omega arith)) in
      let rest : linked n M p x (next_of M x) ≡ true = rw v (rw w at r.0) in
      (rw (ne_eqb _ _ z) (linked_more M p n (before_address p k) x ib l.1 rest), rw (ne_eqb _ _ z, v) (ap (λ (t : List ℕ). x ∷ t) r.1))

  starts_here : p.front ≡ starts_at p (buffers p) 0
  starts_here =
      let z : buffers p ≡ 0 → ⊥ = λ q. omega (arith, c.some_in) in
      let f : p.start ≡ p.start + 0 * p.size = omega arith in
      c.front ∙ rw (ne_eqb _ _ z) f

  pub create_sound : sound_chain (link_all (buffers p) m p 0) p ≡ true
  create_sound =
      let M = link_all (buffers p) m p 0 in
      ap (λ (n : ℕ). linked n M p 0 p.front) c.free
      ∙ ap (λ (x : ℕ). linked (buffers p) M p 0 x) starts_here
      ∙ (all_from (buffers p) 0 (omega arith)).0

  pub create_chain : chain (link_all (buffers p) m p 0) p ≡ addresses (buffers p) p 0
  create_chain =
      let M = link_all (buffers p) m p 0 in
      ap (λ (n : ℕ). follow n M p.front) c.free
      ∙ ap (λ (x : ℕ). follow (buffers p) M x) starts_here
      ∙ (all_from (buffers p) 0 (omega arith)).1

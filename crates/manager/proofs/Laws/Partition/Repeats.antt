-- A chain has no repeats. A chain whose links agree both ways can't come back to a buffer that it passed, since the buffer before that
-- one would be met twice too, down to the first. Assumes nothing.
use Prim.Native.Nat.{ℕ, zero, suc, ◌<◌}
use mathlib.Core.Path.{◌≡◌, refl, sym, ◌∙◌}
use mathlib.Core.Bool.{true, false}
use mathlib.Core.List.{List, [], ◌∷◌}
use mathlib.Core.Logic.{◌⊎◌, inl, inr, ⊎_elim}
use native.Mathlib.Omega.{arith}
use lib.ListN.{length}
use Rattle.manager.specs.Partition.{buffers, buffer_at, is_buffer, next_of, before_of, follow, chain, is_free, linked, sound_chain}
use Rattle.manager.proofs.Laws.Distinct.{On, Off, either, on_off, on_nil, off_nil, on_head, on_tail, on_cases, off_head, off_tail, off_by, distinct, distinct_cons, few}
use Rattle.manager.specs.declared.Partition.{Partition}
use Rattle.manager.proofs.Laws.Partition.Buffers.{Buffer, buffer_of, not_zero}
use Rattle.manager.proofs.Laws.Partition.Chain.{linked_buffer, linked_before, linked_rest, linked_on, follow_length}
use Rattle.manager.specs.Sound.{Shaped}

-- the buffers passed, the last one first: each leads back to the one behind it on this list, the last to 0
abbrev latest : List ℕ → ℕ
latest [] = 0
latest (x ∷ v) = x

abbrev earlier : List ℕ → List ℕ
earlier [] = []
earlier (x ∷ v) = v

pub data Passed (m : List ℕ) : List ℕ → Type 0 where
  none : Passed m []
  more : {x : ℕ} {v : List ℕ} → Passed m v → before_of m x ≡ latest v → Off x v → (x ≡ 0 → ⊥) → Passed m (x ∷ v)

latest_on : (v : List ℕ) → (latest v ≡ 0) ⊎ On (latest v) v
latest_on [] = inl refl
latest_on (x ∷ v) = inr (on_head x x v refl)

earlier_on : (x : ℕ) (v : List ℕ) → On x (earlier v) → On x v
earlier_on x [] q = q
earlier_on x (y ∷ v) q = on_tail x y v q

-- the one before a buffer that was passed was passed, and is not the latest
passed_before : (m v : List ℕ) → Passed m v → (x : ℕ) → On x v → (before_of m x ≡ 0) ⊎ On (before_of m x) (earlier v)
passed_before m [] none x q = absurd (on_nil x q)
passed_before m (y ∷ v) (more w e o z) x q =
    ⊎_elim
    (λ (f : x ≡ y). rw (f, e) (latest_on v))
    (λ f. ⊎_elim (λ g. inl g) (λ g. inr (earlier_on _ v g)) (passed_before m v w x f))
    (on_cases x y v q)

passed_not : (m v : List ℕ) → Passed m v → (a : ℕ) → before_of m a ≡ latest v → Off a v
passed_not m [] none a e = off_nil a
passed_not m (y ∷ v) (more w f o z) a e =
    off_by a (y ∷ v)
    (λ q.
    ⊎_elim
    (λ (g : before_of m a ≡ 0). z (sym e ∙ g))
    (λ (g : On (before_of m a) v). on_off y v (rw e at g) o)
    (passed_before m (y ∷ v) (more w f o z) a q))

module _ (m : List ℕ) (p : Partition) (s : Shaped p) where
  -- what is still to come was not passed, and has no repeats
  passed_more : (n : ℕ) (v : List ℕ) (a : ℕ) → Passed m v → linked (suc n) m p (latest v) a ≡ true → Passed m (a ∷ v)
  passed_more n v a w e =
      let f : before_of m a ≡ latest v = linked_before m p n (latest v) a e in
      more w f (passed_not m v w a f) (not_zero p s a (linked_buffer m p n (latest v) a e))

  comes_new : (n : ℕ) (v : List ℕ) (a : ℕ) → Passed m v → linked n m p (latest v) a ≡ true → (x : ℕ) → On x (follow n m a) → Off x v
  unfolding follow
  comes_new zero v a w e x q = absurd (on_nil x q)
  comes_new (suc n) v a w e x q =
      ⊎_elim
      (λ (f : x ≡ a). rw f (passed_not m v w a (linked_before m p n (latest v) a e)))
      (λ f. off_tail x a v (comes_new n (a ∷ v) (next_of m a) (passed_more n v a w e) (linked_rest m p n (latest v) a e) x f))
      (on_cases x a (follow n m (next_of m a)) q)

  pub no_repeats : (n : ℕ) (v : List ℕ) (a : ℕ) → Passed m v → linked n m p (latest v) a ≡ true → distinct (follow n m a) ≡ true
  unfolding follow distinct
  no_repeats zero v a w e = refl
  no_repeats (suc n) v a w e =
      let r = linked_rest m p n (latest v) a e in
      let u = passed_more n v a w e in
      distinct_cons a (follow n m (next_of m a))
      (off_by a (follow n m (next_of m a)) (λ q. off_head a a v (comes_new n (a ∷ v) (next_of m a) u r a q) refl))
      (no_repeats n (a ∷ v) (next_of m a) u r)

  module _ (e : sound_chain m p ≡ true) where
    -- A SOUND CHAIN HAS NO REPEATS, its buffers are real, and its last is the kept rear
    pub chain_distinct : distinct (chain m p) ≡ true
    chain_distinct = no_repeats p.free [] p.front none e

    pub chain_buffer : (x : ℕ) → is_free m p x ≡ true → is_buffer p x ≡ true
    chain_buffer x q = linked_on m p p.free 0 p.front x e q

    pub chain_length : length (chain m p) ≡ p.free
    chain_length = follow_length p.free m p.front

    pub free_fewer : (a : ℕ) → is_buffer p a ≡ true → is_free m p a ≡ false → p.free < buffers p
    free_fewer a f g =
        let c = chain m p in
        let u = few (buffer_at p) (buffers p) (a ∷ c) (distinct_cons a c g chain_distinct)
        (λ y q.
        let b : Buffer p y =
        buffer_of p s y (⊎_elim (λ (h : y ≡ a). rw h f) (λ h. chain_buffer y h) (on_cases y a c q)) in
        (b.index, b.within, b.address)) in
        omega (arith, u, chain_length)

    -- with all of them free, each is on the chain
    pub all_free : p.free ≡ buffers p → (a : ℕ) → is_buffer p a ≡ true → is_free m p a ≡ true
    all_free h a f =
        ⊎_elim (λ g. g) (λ (g : is_free m p a ≡ false). absurd (omega (arith, free_fewer a f g))) (either (is_free m p a))

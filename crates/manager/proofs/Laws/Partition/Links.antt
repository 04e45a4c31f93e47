-- The words that a chain rests on: a get takes the front off and a return adds at the rear, and every other link stays. Assumes nothing.
use Prim.Native.Nat.{ℕ, zero, suc, ◌+◌, ◌-◌, ◌/◌, ◌<◌}
use mathlib.Core.Path.{◌≡◌, refl, ap, sym, ◌∙◌, subst}
use mathlib.Core.Bool.{true, false, cond}
use mathlib.Core.List.{List, [], ◌∷◌, ◌++◌}
use mathlib.Core.Logic.{⊎_elim}
use native.Mathlib.Omega.{arith}
use native.Mathlib.Numerals.{add-one}
use lib.ListN.{length, length-set}
use lib.Seq.{get_or-set_same, get_or-set_other}
use lib.Dec.{eqb}
use borrow.Author.Tests.{eq-eqb, ne_eqb}
use Rattle.manager.specs.Partition.{is_buffer, next_of, before_of, set_next, set_before, link, follow, chain, is_free, linked, sound_chain, after_get, gotten, after_return, returned}
use Rattle.manager.proofs.Laws.Distinct.{On, Off, on_off, on_nil, on_head, on_tail, on_cases, distinct, distinct_head, distinct_tail}
use Rattle.manager.specs.Sound.{LaidPartition}
use Rattle.manager.specs.declared.Partition.{Partition}
use Rattle.manager.proofs.Laws.Partition.Buffers.{Buffer, buffer_of, placed, words_cross, words_apart, not_zero}
use Rattle.manager.proofs.Laws.Partition.Chain.{linked_buffer, linked_before, linked_rest, linked_last, linked_rear, linked_more, linked_end, linked_on, rear_on}
use Rattle.manager.proofs.Laws.Partition.Repeats.{none, no_repeats}

-- the same links of a buffer in two memories
pub record Same (m m' : List ℕ) (x : ℕ) : Type 0 where
  pub next : next_of m' x ≡ next_of m x
  pub before : before_of m' x ≡ before_of m x

pub follow_same : (m m' : List ℕ) (n a : ℕ) → ((x : ℕ) → On x (follow n m a) → next_of m' x ≡ next_of m x) → follow n m' a ≡ follow n m a
unfolding follow
follow_same m m' zero a h = refl
follow_same m m' (suc n) a h =
    let r = follow n m (next_of m a) in
    let e : next_of m' a ≡ next_of m a = h a (on_head a a r refl) in
    rw (e, follow_same m m' n (next_of m a) (λ x q. h x (on_tail x a r q)))

-- a sound chain is sound in another memory with the same links, for a partition with the same buffers and rear
pub linked_same : (m m' : List ℕ) (p p' : Partition) → ((x : ℕ) → is_buffer p' x ≡ is_buffer p x) → p'.rear ≡ p.rear → (n before a : ℕ)
    → ((x : ℕ) → On x (follow n m a) → Same m m' x) → linked n m p before a ≡ true → linked n m' p' before a ≡ true
unfolding follow
linked_same m m' p p' b r zero before a h e =
    linked_end m' p' before a (linked_last m p before a e) (linked_rear m p before a e ∙ sym r)
linked_same m m' p p' b r (suc n) before a h e =
    let l = follow n m (next_of m a) in
    let s = h a (on_head a a l refl) in
    let t = linked_same m m' p p' b r n a (next_of m a) (λ x q. h x (on_tail x a l q)) (linked_rest m p n before a e) in
    linked_more m' p' n before a (b a ∙ linked_buffer m p n before a e) (s.before ∙ linked_before m p n before a e) (rw s.next t)

-- the front, and what comes after it
pub chain_front : (m : List ℕ) (p : Partition) → 0 < p.free → chain m p ≡ p.front ∷ follow (p.free - 1) m (next_of m p.front)
unfolding follow
chain_front m p h = let z : p.free ≡ suc (p.free - 1) = omega arith in ap (λ (n : ℕ). follow n m p.front) z

-- a buffer of a chain whose rear leads on to `a` in another memory
record Joined (m m' : List ℕ) (p : Partition) (a x : ℕ) : Type 0 where
  before : before_of m' x ≡ before_of m x
  next : (x ≡ p.rear → ⊥) → next_of m' x ≡ next_of m x
  last : x ≡ p.rear → next_of m' x ≡ a

-- where a chain of n buffers from x on starts, with `a` at its end
abbrev entry : ℕ → ℕ → ℕ → ℕ
entry a zero x = a
entry a (suc n) x = x

entered : (a n x : ℕ) → cond (eqb n 0) a x ≡ entry a n x
entered a zero x = refl
entered a (suc n) x = let z : suc n ≡ 0 → ⊥ = λ e. omega arith in rw (ne_eqb _ _ z)

nothing_on : (m : List ℕ) (a x : ℕ) → On x (follow 0 m a) → ⊥
unfolding follow
nothing_on m a x q = on_nil x q

module _ (m m' : List ℕ) (p : Partition) (a : ℕ) (ia : is_buffer p a ≡ true) (an : next_of m' a ≡ 0) (ab : before_of m' a ≡ p.rear) where
  joins_next : (n before x : ℕ) → linked (suc n) m p before x ≡ true → Off x (follow n m (next_of m x)) → Joined m m' p a x
      → next_of m' x ≡ entry a n (next_of m x)
  joins_next zero before x e o j = j.last (linked_rear m p x (next_of m x) (linked_rest m p 0 before x e))
  joins_next (suc n) before x e o j =
      let l = follow (suc n) m (next_of m x) in
      j.next (λ k. on_off p.rear l (rear_on m p n x (next_of m x) (linked_rest m p (suc n) before x e)) (subst (λ (y : ℕ). Off y l) k o))

  joins : (n before x : ℕ) → linked n m p before x ≡ true → distinct (follow n m x) ≡ true → ((y : ℕ) → On y (follow n m x) → Joined m m' p a y)
      → (linked (suc n) m' (returned p a) before (entry a n x) ≡ true) × (follow (suc n) m' (entry a n x) ≡ follow n m x ++ a ∷ [])
  unfolding follow
  joins zero before x e d h = (
    linked_more m' (returned p a) 0 before a ia (ab ∙ sym (linked_rear m p before x e)) (linked_end m' (returned p a) a (next_of m' a) an refl),
    refl,
  )
  joins (suc n) before x e d h =
      let l = follow n m (next_of m x) in
      let j = h x (on_head x x l refl) in
      let k : next_of m' x ≡ entry a n (next_of m x) = joins_next n before x e (distinct_head x l d) j in
      let r = joins n x (next_of m x) (linked_rest m p n before x e) (distinct_tail x l d) (λ y q. h y (on_tail y x l q)) in (
        linked_more m' (returned p a) (suc n) before x (linked_buffer m p n before x e) (j.before ∙ linked_before m p n before x e) (rw k r.0),
        rw k (ap (λ (t : List ℕ). x ∷ t) r.1),
      )

-- what a get leaves, by whether the front was the last
pub after_last : (m : List ℕ) (p : Partition) → next_of m p.front ≡ 0 → after_get m p ≡ link m p.front 0 0
unfolding after_get
after_last m p e = rw (eq-eqb _ _ e)

pub after_get_lem : (m : List ℕ) (p : Partition) → (next_of m p.front ≡ 0 → ⊥) → after_get m p ≡ set_before (link m p.front 0 0) (next_of m p.front) 0
unfolding after_get
after_get_lem m p e = rw (ne_eqb _ _ e)

pub return_first : (m : List ℕ) (p : Partition) (a : ℕ) → p.free ≡ 0 → after_return m p a ≡ link m a 0 0
unfolding after_return
return_first m p a e = rw (eq-eqb _ _ e)

pub return_behind : (m : List ℕ) (p : Partition) (a : ℕ) → (p.free ≡ 0 → ⊥) → after_return m p a ≡ link (set_next m p.rear a) a 0 p.rear
unfolding after_return
return_behind m p a e = rw (ne_eqb _ _ e)

-- reading links after stores
module _ (m : List ℕ) (p : Partition) (g : LaidPartition m p) where
  pub word_in : (a : ℕ) → Buffer p a → a / 4 + 1 < length m
  word_in a b = let q = placed p g.shaped a b in omega (arith, q.high, g.inside, g.shaped.big)

  -- GET
  module _ (f n : ℕ) (bf : Buffer p f) (bn : Buffer p n) where
    get_next : (x : ℕ) → Buffer p x → (x ≡ f → ⊥) → next_of (set_before (link m f 0 0) n 0) x ≡ next_of m x
    get_next x b h =
        get_or-set_other (link m f 0 0) (n / 4 + 1) (x / 4) 0 0 (words_cross p g.shaped x n b bn)
        ∙ get_or-set_other (set_next m f 0) (f / 4 + 1) (x / 4) 0 0 (words_cross p g.shaped x f b bf)
        ∙ get_or-set_other m (f / 4) (x / 4) 0 0 (words_apart p g.shaped x f b bf h)

    get_before : (x : ℕ) → Buffer p x → (x ≡ f → ⊥) → (x ≡ n → ⊥) → before_of (set_before (link m f 0 0) n 0) x ≡ before_of m x
    get_before x b h k =
        let u : x / 4 + 1 ≡ n / 4 + 1 → ⊥ = λ e. words_apart p g.shaped x n b bn k (omega arith) in
        let v : x / 4 + 1 ≡ f / 4 + 1 → ⊥ = λ e. words_apart p g.shaped x f b bf h (omega arith) in
        let w : x / 4 + 1 ≡ f / 4 → ⊥ = λ e. words_cross p g.shaped f x bf b (sym e) in
        get_or-set_other (link m f 0 0) (n / 4 + 1) (x / 4 + 1) 0 0 u
        ∙ get_or-set_other (set_next m f 0) (f / 4 + 1) (x / 4 + 1) 0 0 v
        ∙ get_or-set_other m (f / 4) (x / 4 + 1) 0 0 w

    get_ends : before_of (set_before (link m f 0 0) n 0) n ≡ 0
    get_ends =
        get_or-set_same (link m f 0 0) (n / 4 + 1) 0 0
        (omega (arith, word_in n bn, length-set (set_next m f 0) (f / 4 + 1) 0, length-set m (f / 4) 0))

  get_from : (n : ℕ) → linked (suc n) m p 0 p.front ≡ true
      → (linked n (after_get m p) (gotten m p) 0 (next_of m p.front) ≡ true)
      × (follow n (after_get m p) (next_of m p.front) ≡ follow n m (next_of m p.front))
  unfolding follow
  get_from zero e =
      let z : next_of m p.front ≡ 0 = linked_last m p p.front (next_of m p.front) (linked_rest m p 0 0 p.front e) in
      (linked_end (after_get m p) (gotten m p) 0 (next_of m p.front) z (rw (eq-eqb _ _ z)), refl)
  get_from (suc n) e =
      let f = p.front in
      let a = next_of m f in
      let r : linked (suc n) m p f a ≡ true = linked_rest m p (suc n) 0 f e in
      let ia : is_buffer p a ≡ true = linked_buffer m p n f a r in
      let bf : Buffer p f = buffer_of p g.shaped f (linked_buffer m p (suc n) 0 f e) in
      let ba : Buffer p a = buffer_of p g.shaped a ia in
      let z : a ≡ 0 → ⊥ = not_zero p g.shaped a ia in
      let d : distinct (follow (suc (suc n)) m f) ≡ true = no_repeats m p g.shaped (suc (suc n)) [] f none e in
      let l = follow n m (next_of m a) in
      let df : Off f (a ∷ l) = distinct_head f (a ∷ l) d in
      let da : Off a l = distinct_head a l (distinct_tail f (a ∷ l) d) in
      let x : after_get m p ≡ set_before (link m f 0 0) a 0 = after_get_lem m p z in
      let t = linked_rest m p n f a r in
      let on : (y : ℕ) → On y l → Buffer p y = λ y q. buffer_of p g.shaped y (linked_on m p n a (next_of m a) y t q) in
      let nf : (y : ℕ) → On y (a ∷ l) → y ≡ f → ⊥ = λ y q k. on_off f (a ∷ l) (rw k at q) df in
      let na : (y : ℕ) → On y l → y ≡ a → ⊥ = λ y q k. on_off a l (rw k at q) da in
      let next : (y : ℕ) → On y (a ∷ l) → Buffer p y → next_of (set_before (link m f 0 0) a 0) y ≡ next_of m y =
      λ y q b. get_next f a bf ba y b (nf y q) in
      let same : (y : ℕ) → On y l → Same m (set_before (link m f 0 0) a 0) y =
      λ y q.
      record {
        next = next y (on_tail y a l q) (on y q);
        before = get_before f a bf ba y (on y q) (nf y (on_tail y a l q)) (na y q);
      } in
      let rest : linked n (set_before (link m f 0 0) a 0) (gotten m p) a (next_of m a) ≡ true =
      linked_same m (set_before (link m f 0 0) a 0) p (gotten m p) (λ y. refl) (rw (ne_eqb _ _ z)) n a (next_of m a) same t in
      let na' : next_of (set_before (link m f 0 0) a 0) a ≡ next_of m a = next a (on_head a a l refl) ba in (
        rw x (linked_more (set_before (link m f 0 0) a 0) (gotten m p) n 0 a ia (get_ends f a bf ba) (rw na' rest)),
        rw x (follow_same m (set_before (link m f 0 0) a 0) (suc n) a
            (λ y q.
            ⊎_elim (λ (k : y ≡ a). rw k na') (λ k. (same y k).next) (on_cases y a l q))),
      )

  module _ (e : sound_chain m p ≡ true) (h : 0 < p.free) where
    counted : linked (suc (p.free - 1)) m p 0 p.front ≡ true
    counted = let z : suc (p.free - 1) ≡ p.free = omega arith in ap (λ (n : ℕ). linked n m p 0 p.front) z ∙ e

    -- A GET TAKES THE FRONT OFF, and the chain is sound again
    pub get_sound : sound_chain (after_get m p) (gotten m p) ≡ true
    get_sound = (get_from (p.free - 1) counted).0

    pub get_chain : chain m p ≡ p.front ∷ chain (after_get m p) (gotten m p)
    get_chain = chain_front m p h ∙ ap (λ (l : List ℕ). p.front ∷ l) (sym (get_from (p.free - 1) counted).1)

    -- what it hands out is a buffer
    pub get_buffer_lem : is_buffer p p.front ≡ true
    get_buffer_lem = linked_buffer m p (p.free - 1) 0 p.front counted

  -- RETURN
  module _ (r a : ℕ) (br : Buffer p r) (ba : Buffer p a) (n : r ≡ a → ⊥) where
    put_next : (x : ℕ) → Buffer p x → (x ≡ a → ⊥) → next_of (link (set_next m r a) a 0 r) x ≡ next_of (set_next m r a) x
    put_next x b h =
        get_or-set_other (set_next (set_next m r a) a 0) (a / 4 + 1) (x / 4) r 0 (words_cross p g.shaped x a b ba)
        ∙ get_or-set_other (set_next m r a) (a / 4) (x / 4) 0 0 (words_apart p g.shaped x a b ba h)

    put_before : (x : ℕ) → Buffer p x → (x ≡ a → ⊥) → before_of (link (set_next m r a) a 0 r) x ≡ before_of m x
    put_before x b h =
        let u : x / 4 + 1 ≡ a / 4 + 1 → ⊥ = λ e. words_apart p g.shaped x a b ba h (omega arith) in
        let v : x / 4 + 1 ≡ a / 4 → ⊥ = λ e. words_cross p g.shaped a x ba b (sym e) in
        let w : x / 4 + 1 ≡ r / 4 → ⊥ = λ e. words_cross p g.shaped r x br b (sym e) in
        get_or-set_other (set_next (set_next m r a) a 0) (a / 4 + 1) (x / 4 + 1) r 0 u
        ∙ get_or-set_other (set_next m r a) (a / 4) (x / 4 + 1) 0 0 v
        ∙ get_or-set_other m (r / 4) (x / 4 + 1) a 0 w

    put_joined : (x : ℕ) → p.rear ≡ r → Buffer p x → (x ≡ a → ⊥) → Joined m (link (set_next m r a) a 0 r) p a x
    put_joined x q b h =
        record {
          before = put_before x b h;
          next = λ k. put_next x b h ∙ get_or-set_other m (r / 4) (x / 4) a 0 (words_apart p g.shaped x r b br (λ e. k (e ∙ sym q)));
          last = λ k. put_next x b h ∙ rw (k ∙ q) (get_or-set_same m (r / 4) a 0 (omega (arith, word_in r br)));
        }

  -- the links of the returned buffer
  module _ (t : List ℕ) (a v : ℕ) (ba : Buffer p a) (len : length t ≡ length m) where
    put_last : next_of (link t a 0 v) a ≡ 0
    put_last =
        get_or-set_other (set_next t a 0) (a / 4 + 1) (a / 4) v 0 (words_cross p g.shaped a a ba ba)
        ∙ get_or-set_same t (a / 4) 0 0 (omega (arith, word_in a ba))

    put_behind : before_of (link t a 0 v) a ≡ v
    put_behind = get_or-set_same (set_next t a 0) (a / 4 + 1) v 0 (omega (arith, word_in a ba, length-set t (a / 4) 0))

  module _ (e : sound_chain m p ≡ true) (a : ℕ) (ia : is_buffer p a ≡ true) (o : is_free m p a ≡ false) where
    return_from : (n : ℕ) → p.free ≡ n → linked n m p 0 p.front ≡ true → Off a (follow n m p.front)
        → (linked (suc n) (after_return m p a) (returned p a) 0 (entry a n p.front) ≡ true)
        × (follow (suc n) (after_return m p a) (entry a n p.front) ≡ follow n m p.front ++ a ∷ [])
    return_from zero z f q =
        let ba = buffer_of p g.shaped a ia in
        let t : after_return m p a ≡ link m a 0 0 = return_first m p a z in
        let w = put_behind m a 0 ba refl ∙ linked_rear m p 0 p.front f in
        rw t (joins m (link m a 0 0) p a ia (put_last m a 0 ba refl) w 0 0 p.front f (no_repeats m p g.shaped 0 [] p.front none f) (λ y k. absurd (nothing_on m p.front y k)))
    return_from (suc n) z f q =
        let l = follow (suc n) m p.front in
        let ba = buffer_of p g.shaped a ia in
        let r = p.rear in
        let t : after_return m p a ≡ link (set_next m r a) a 0 r = return_behind m p a (λ k. omega arith) in
        let u : (y : ℕ) → On y l → Buffer p y = λ y k. buffer_of p g.shaped y (linked_on m p (suc n) 0 p.front y f k) in
        let v : (y : ℕ) → On y l → y ≡ a → ⊥ = λ y k x. on_off a l (subst (λ (b : ℕ). On b l) x k) q in
        let ro : On r l = rear_on m p n 0 p.front f in
        let len : length (set_next m r a) ≡ length m = length-set m (r / 4) a in
        rw t
        (joins m (link (set_next m r a) a 0 r) p a ia (put_last (set_next m r a) a r ba len) (put_behind (set_next m r a) a r ba len) (suc n) 0 p.front
        f
        (no_repeats m p g.shaped (suc n) [] p.front none f)
        (λ y k. put_joined r a (u r ro) ba (v r ro) y refl (u y k) (v y k)))

    -- A RETURN ADDS AT THE REAR, and the chain is sound again
    pub return_sound : sound_chain (after_return m p a) (returned p a) ≡ true
    return_sound =
        let x = (returned p a).front in
        ap (λ (n : ℕ). linked n (after_return m p a) (returned p a) 0 x) (add-one p.free)
        ∙ ap (λ (y : ℕ). linked (suc p.free) (after_return m p a) (returned p a) 0 y) (entered a p.free p.front)
        ∙ (return_from p.free refl e o).0

    pub return_chain : chain (after_return m p a) (returned p a) ≡ chain m p ++ a ∷ []
    return_chain =
        let z : p.free + 1 ≡ suc p.free = add-one p.free in
        rw (z, entered a p.free p.front) (return_from p.free refl e o).1

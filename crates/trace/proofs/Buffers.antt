-- Lists of buffers: all of a partition by address, and lists of which some are struck, as sets of numbers that are on them once. Assumes
-- nothing.
use mathlib.Core.Path.{◌≡◌, refl, sym, ap, ◌∙◌, subst}
use mathlib.Core.Bool.{Bool, true, false, cond}
use mathlib.Core.List.{List, [], ◌∷◌}
use mathlib.Core.Logic.{◌⊎◌, inl, inr, ⊎_elim}
use Prim.Native.Nat.{ℕ, zero, suc, ◌+◌, ◌*◌, ◌<◌}
use native.Mathlib.Nat.{zero-mul}
use native.Mathlib.Omega.{arith}
use lib.ListN.{length}
use lib.Dec.{eqb}
use borrow.Author.Tests.{eqb-true, eqb-false, eq-eqb}
use Rattle.manager.specs.Lists.{any, In, Distinct}
use Rattle.manager.specs.Partition.{buffers, is_buffer, chain}
use Rattle.manager.proofs.Laws.Distinct.{either, on_off, on_in, distinct_is}
use Rattle.manager.proofs.Laws.Partition.Buffers.{buffer_of, of_buffer}
use Rattle.manager.proofs.Laws.Partition.Repeats.{chain_distinct}
use Rattle.manager.proofs.Laws.Partition.Live.{live_laid, live_chain}
use Rattle.manager.specs.Sound.{live_partition, Shaped}
use Rattle.manager.specs.declared.Partition.{Partition}
use Rattle.trace.specs.Receipts.{buffers_from, strike}

-- a number is on a list, or not
pub in_or_not : (a : ℕ) (l : List ℕ) → In a l ⊎ (¬ In a l)
in_or_not a l = ⊎_elim (λ h. inl ((on_in a l).0 h)) (λ h. inr (λ k. on_off a l ((on_in a l).1 k) h)) (either (any (eqb a) l))

-- ---- one number struck

module _ (c : ℕ) where
  pub strike_here : (x : ℕ) (l : List ℕ) → x ≡ c → strike c (x ∷ l) ≡ l
  unfolding strike
  strike_here x l e = rw (eq-eqb x c e)

  pub within_strike : (a : ℕ) (l : List ℕ) → In a (strike c l) → In a l
  unfolding strike In
  within_strike a [] h = h
  within_strike a (x ∷ l) h = go (eqb x c) h (within_strike a l)
    where
      go : (b : Bool) → In a (cond b l (x ∷ strike c l)) → (In a (strike c l) → In a l) → (x ≡ a) ⊎ In a l
      go true h ih = inr h
      go false (inl e) ih = inl e
      go false (inr h) ih = inr (ih h)

  pub strike_other : (a : ℕ) (l : List ℕ) → Distinct l → In a (strike c l) → ¬ (a ≡ c)
  unfolding strike In Distinct
  strike_other a [] d h q = h
  strike_other a (x ∷ l) d h q = go (eqb x c) refl h (λ k. strike_other a l d.1 k q)
    where
      go : (b : Bool) → eqb x c ≡ b → In a (cond b l (x ∷ strike c l)) → (In a (strike c l) → ⊥) → ⊥
      go true e k ih = d.0 (subst (λ (y : ℕ). In y l) (q ∙ sym (eqb-true x c e)) k)
      go false e (inl f) ih = eqb-false x c e (f ∙ q)
      go false e (inr k) ih = ih k

  -- and every other stays
  pub strike_keeps : (a : ℕ) (l : List ℕ) → In a l → ¬ (a ≡ c) → In a (strike c l)
  unfolding strike In
  strike_keeps a [] h n = h
  strike_keeps a (x ∷ l) h n = go (eqb x c) refl h (λ k. strike_keeps a l k n)
    where
      go : (b : Bool) → eqb x c ≡ b → (x ≡ a) ⊎ In a l → (In a l → In a (strike c l)) → In a (cond b l (x ∷ strike c l))
      go true e (inl f) ih = absurd (n (sym f ∙ eqb-true x c e))
      go true e (inr k) ih = k
      go false e (inl f) ih = inl f
      go false e (inr k) ih = inr (ih k)

  pub strike_distinct : (l : List ℕ) → Distinct l → Distinct (strike c l)
  unfolding strike Distinct In
  strike_distinct [] d = d
  strike_distinct (x ∷ l) d = go (eqb x c) (strike_distinct l d.1)
    where
      go : (b : Bool) → Distinct (strike c l) → Distinct (cond b l (x ∷ strike c l))
      go true ih = d.1
      go false ih = (λ h. d.0 (within_strike x l h), ih)

  pub strike_length : (l : List ℕ) → In c l → suc (length (strike c l)) ≡ length l
  unfolding strike In
  strike_length [] h = absurd h
  strike_length (x ∷ l) h = go (eqb x c) refl h (strike_length l)
    where
      go : (b : Bool) → eqb x c ≡ b → (x ≡ c) ⊎ In c l → (In c l → suc (length (strike c l)) ≡ length l) → suc (length (cond b l (x ∷ strike c l))) ≡ suc (length l)
      go true e k ih = refl
      go false e (inl f) ih = absurd (eqb-false x c e f)
      go false e (inr k) ih = ap suc (ih k)

-- ---- all buffers by address

pub length_buffers : (n size a : ℕ) → length (buffers_from n size a) ≡ n
unfolding buffers_from
length_buffers zero size a = refl
length_buffers (suc n) size a = ap suc (length_buffers n size (a + size))

-- the k-th of them
pub record Numbered (n size a b : ℕ) : Type 0 where
  pub k : ℕ
  pub below : k < n
  pub at : b ≡ a + k * size

pub buffers_numbered : (n size a b : ℕ) → In b (buffers_from n size a) → Numbered n size a b
unfolding buffers_from In
buffers_numbered zero size a b h = absurd h
buffers_numbered (suc n) size a b (inl e) = record { k = 0; below = omega arith; at = omega (arith, zero-mul size) }
buffers_numbered (suc n) size a b (inr h) =
    let r = buffers_numbered n size (a + size) b h in
    record { k = suc r.k; below = omega (arith, r.below); at = omega (arith, r.at) }

pub numbered_buffers : (n size a k : ℕ) → k < n → In (a + k * size) (buffers_from n size a)
unfolding buffers_from In
numbered_buffers zero size a k h = absurd (omega arith)
numbered_buffers (suc n) size a zero h = inl (omega (arith, zero-mul size))
numbered_buffers (suc n) size a (suc k) h =
    let e : a + size + k * size ≡ a + suc k * size = omega arith in
    inr (rw e at (numbered_buffers n size (a + size) k (omega arith)))

pub distinct_buffers : (n size a : ℕ) → 0 < size → Distinct (buffers_from n size a)
unfolding buffers_from Distinct
distinct_buffers zero size a h = tt
distinct_buffers (suc n) size a h =
    (λ w. let r = buffers_numbered n size (a + size) a w in omega (arith, r.at), distinct_buffers n size (a + size) h)

-- an address of a partition's buffer is one of them
module _ (p : Partition) (s : Shaped p) (a : ℕ) where
  pub buffer_within : is_buffer p a ≡ true → In a (buffers_from (buffers p) p.size p.start)
  buffer_within h =
      let b = buffer_of p s a h in
      subst (λ (x : ℕ). In x (buffers_from (buffers p) p.size p.start)) (sym b.address) (numbered_buffers (buffers p) p.size p.start b.index b.within)

  pub within_buffer : In a (buffers_from (buffers p) p.size p.start) → is_buffer p a ≡ true
  within_buffer w =
      let r = buffers_numbered (buffers p) p.size p.start a w in
      of_buffer p s a (record { index = r.k; within = r.below; address = r.at })

-- A SOUND CHAIN HAS EACH BUFFER ONCE
pub chain_once : (m : List ℕ) (p : Partition) → live_partition m p ≡ true → Distinct (chain m p)
chain_once m p e = (distinct_is (chain m p)).0 (chain_distinct m p (live_laid m p e).shaped (live_chain m p e))

-- The buffers of a partition: where they lie, and that each is apart from the others. Assumes nothing.
use Prim.Native.Nat.{ℕ, ◌+◌, ◌-◌, ◌*◌, ◌/◌, ◌%◌, ◌≤◌, ◌<◌}
use mathlib.Core.Path.{◌≡◌, refl, ap, sym, ◌∙◌}
use mathlib.Core.Bool.{true, false}
use mathlib.Core.Logic.{◌⊎◌, inl, inr, ⊎_elim}
use native.Mathlib.Omega.{arith}
use native.Mathlib.Nat.{div-add-mod', div-mul-le_self, mul-le-mul_right, mul-mod_left, mul-div_cancel, mul_assoc}
use lib.Dec.{eqb, leb, ltb}
use borrow.Author.Tests.{eqb-true, leb-true, ltb-true, ltb-false, eq-eqb, le-leb, lt-ltb}
use Rattle.manager.proofs.Laws.Lists.{and_first, and_second}
use Rattle.manager.specs.Partition.{buffers, buffer_at, is_buffer}
use Rattle.manager.proofs.Laws.Distinct.{either, same_or_not}
use Rattle.manager.specs.Sound.{Shaped}
use Rattle.manager.specs.declared.Partition.{Partition}

-- a buffer: its number, and where it lies
pub record Buffer (p : Partition) (a : ℕ) : Type 0 where
  pub index : ℕ
  pub within : index < buffers p
  pub address : a ≡ buffer_at p index

module _ (p : Partition) (s : Shaped p) where
  pub buffer_of : (a : ℕ) → is_buffer p a ≡ true → Buffer p a
  buffer_of a e =
      let le : p.start ≤ a = leb-true _ _ (and_first (leb p.start a) _ e) in
      let f = and_second (leb p.start a) _ e in
      let md : (a - p.start) % p.size ≡ 0 = eqb-true _ _ (and_first (eqb ((a - p.start) % p.size) 0) _ f) in
      let lt : (a - p.start) / p.size < buffers p = ltb-true _ _ (and_second (eqb ((a - p.start) % p.size) 0) _ f) in
      record {
        index = (a - p.start) / p.size;
        within = lt;
        address = omega (arith, div-add-mod' (a - p.start) p.size);
      }

  pub of_buffer : (a : ℕ) → Buffer p a → is_buffer p a ≡ true
  of_buffer a b =
      let k = b.index in
      let z : 0 < p.size = omega (arith, s.big) in
      let d : a - p.start ≡ k * p.size = omega (arith, b.address) in
      let le : leb p.start a ≡ true = le-leb p.start a (omega (arith, b.address)) in
      let md : eqb ((a - p.start) % p.size) 0 ≡ true = eq-eqb ((a - p.start) % p.size) 0 (rw d (mul-mod_left k p.size)) in
      let lt : ltb ((a - p.start) / p.size) (buffers p) ≡ true = lt-ltb ((a - p.start) / p.size) (buffers p) (rw (d, mul-div_cancel k z) b.within) in
      rw (le, md, lt)

  pub buffer_at_lem : (k : ℕ) → k < buffers p → Buffer p (buffer_at p k)
  buffer_at_lem k h = record { index = k; within = h; address = refl }

-- where it lies: in the area, at whole words
pub record Placed (p : Partition) (a : ℕ) : Type 0 where
  pub low : p.start ≤ a
  pub high : a + p.size ≤ p.start + p.length
  pub aligned : a % 4 ≡ 0

four : (n k : ℕ) → n % 4 ≡ 0 → k * n % 4 ≡ 0
four n k e =
    let q : n ≡ n / 4 * 4 = omega arith in
    let r : k * n ≡ k * (n / 4) * 4 = ap (λ (x : ℕ). k * x) q ∙ sym (mul_assoc k (n / 4) 4) in
    rw r (mul-mod_left (k * (n / 4)) 4)

module _ (p : Partition) (s : Shaped p) where
  pub placed : (a : ℕ) → Buffer p a → Placed p a
  placed a b =
      let k = b.index in
      let n = buffers p in
      let u : (k + 1) * p.size ≤ n * p.size = mul-le-mul_right p.size (omega (arith, b.within)) in
      record {
        low = omega (arith, b.address);
        high = omega (arith, b.address, u, div-mul-le_self p.length p.size);
        aligned = omega (arith, b.address, four p.size k s.whole, s.aligned);
      }

  -- no two share a word
  pub further : (i j : ℕ) → i < j → buffer_at p i + p.size ≤ buffer_at p j
  further i j h =
      let u : (i + 1) * p.size ≤ j * p.size = mul-le-mul_right p.size (omega arith) in
      omega arith

  pub apart : (a b : ℕ) → Buffer p a → Buffer p b → (a ≡ b → ⊥) → (a + p.size ≤ b) ⊎ (b + p.size ≤ a)
  apart a b x y n =
      let i = x.index in
      let j = y.index in
      let z : i ≡ j → ⊥ = λ e. n (x.address ∙ ap (buffer_at p) e ∙ sym y.address) in
      ⊎_elim
      (λ (e : ltb i j ≡ true). inl (omega (arith, further i j (ltb-true i j e), x.address, y.address)))
      (λ (e : ltb i j ≡ false).
      let g : j ≤ i = ltb-false i j e in
      let l : j < i = ⊎_elim (λ (q : i ≡ j). absurd (z q)) (λ (q : i ≡ j → ⊥). omega arith) (same_or_not i j) in
      inr (omega (arith, further j i l, x.address, y.address)))
      (either (ltb i j))

  module _ (a b : ℕ) (x : Buffer p a) (y : Buffer p b) where
    -- word 0 of one is never word 1 of another, and the same word of two is never shared
    pub words_cross : a / 4 ≡ b / 4 + 1 → ⊥
    words_cross e =
        ⊎_elim
        (λ (q : a ≡ b). omega arith)
        (λ (q : a ≡ b → ⊥).
        ⊎_elim (λ (h : a + p.size ≤ b). omega (arith, e, s.big)) (λ (h : b + p.size ≤ a). omega (arith, e, s.big, (placed b y).aligned)) (apart a b x y q))
        (same_or_not a b)

    pub words_apart : (a ≡ b → ⊥) → a / 4 ≡ b / 4 → ⊥
    words_apart q e = ⊎_elim (λ (h : a + p.size ≤ b). omega (arith, e, s.big)) (λ (h : b + p.size ≤ a). omega (arith, e, s.big)) (apart a b x y q)

  pub not_zero : (a : ℕ) → is_buffer p a ≡ true → a ≡ 0 → ⊥
  not_zero a e z = omega (arith, s.start_in, (placed a (buffer_of p s a e)).low)

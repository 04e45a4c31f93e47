-- THE SMALLEST FREE BLOCK LOSES NOTHING: where 2^i pages that start at a multiple of 2^i are all unheld, some free block has 2^i pages or
-- more. Such a run lies in one of the two halves, or is the whole block, of which something is held. And a free block's pages are unheld.
-- Assumes nothing.
use mathlib.Core.Path.{◌≡◌, refl, ap}
use mathlib.Core.Bool.{false, ◌&&◌}
use mathlib.Core.List.{List, [], ◌∷◌, ◌++◌}
use mathlib.Core.Logic.{◌⊎◌, inl, inr}
use Prim.Native.Nat.{ℕ, suc, ◌+◌, ◌*◌, ◌^◌, ◌≤◌, ◌<◌}
use native.Mathlib.Nat.{eq-or-lt_of_le}
use native.Mathlib.Omega.{arith}
use Rattle.arith.proofs.Laws.Power.{some_power, double, power_le}
use Rattle.manager.specs.Map.{Segment, free, held, total}
use Rattle.manager.specs.Halves.{is_free, FreeAt}
use Rattle.manager.proofs.Laws.Map.{Sized}
use Rattle.manager.proofs.Laws.Halves.Cut.{Halved, one, two, halved_total}
use Rattle.manager.proofs.Laws.Halves.Place.{free_within, free_left, free_right}
use Rattle.trace.specs.Loans.{Loan, loan, Lent, Held, Ordered}
use Rattle.trace.specs.Reading.{loans_of}
use Rattle.trace.proofs.Loans.Drawn.{ordered_next, held_after, lent_within}
use Rattle.trace.proofs.Loans.Says.{ordered_says}
use Rattle.trace.proofs.Loans.Blocks.Drawn.{low_or_high, two_says, two_lend, block_ordered}

-- ---- what is held of two parts

held_left : (k l : List Loan) (q : ℕ) → Held k q → Held (k ++ l) q
unfolding Held
held_left [] l q h = absurd h
held_left (loan a n ∷ k) l q (inl h) = inl h
held_left (loan a n ∷ k) l q (inr h) = inr (held_left k l q h)

held_right : (k l : List Loan) (q : ℕ) → Held l q → Held (k ++ l) q
unfolding Held
held_right [] l q h = h
held_right (loan a n ∷ k) l q h = inr (held_right k l q h)

-- ---- A FREE BLOCK'S PAGES ARE UNHELD

pub free_unheld : (s : List Segment) (at p n q : ℕ) → Sized s → FreeAt s at p n → p ≤ q → q < p + n → ¬ Held (loans_of at s) q
unfolding FreeAt Held loans_of
free_unheld [] at p n q w x b u h = h
free_unheld (held m ∷ s) at p n q w x b u (inl h) = omega (arith, h.1, (free_within s (at + m) p n x).0)
free_unheld (held m ∷ s) at p n q w x b u (inr h) = free_unheld s (at + m) p n q w.1 x b u h
free_unheld (free m ∷ s) at p n q w (inl x) b u h =
    let l = loans_of (at + m) s in
    let e = at + m + total s in
    let o = ordered_says (at + m) s w.1 in
    omega (arith, x.0, x.1, ordered_next e (at + m) l o, held_after e (at + m) l q o h)
free_unheld (free m ∷ s) at p n q w (inr x) b u h = free_unheld s (at + m) p n q w.1 x b u h

-- ---- AN ALIGNED RUN OF UNHELD PAGES

-- 2^i pages, so many times 2^i behind page `at`, none of them held
pub record Unheld (l : List Loan) (at i c : ℕ) : Type 0 where
  pub each : (q : ℕ) → at + c * 2 ^ i ≤ q → q < at + c * 2 ^ i + 2 ^ i → ¬ Held l q

-- a free block that has 2^i pages or more
pub record Has (s : List Segment) (at i : ℕ) : Type 0 where
  pub place : ℕ
  pub pages : ℕ
  pub free : FreeAt s at place pages
  pub enough : 2 ^ i ≤ pages

-- two halves: not all their pages are unheld, and an aligned run of some lies in the low one or in the high one
module _ {j : ℕ} {a b : List Segment} (at i c : ℕ) (x : Halved j a) (y : Halved j b) (u : Unheld (loans_of at (a ++ b)) at i c)
    (within : c * 2 ^ i + 2 ^ i ≤ 2 ^ suc j) where
  not_all : (is_free a && is_free b) ≡ false → i ≡ suc j → ⊥
  unfolding Held Lent Ordered
  not_all f e = go (loans_of at (a ++ b)) refl (block_ordered at (two j a b x y f))
    where
      n : ℕ
      n = at + 2 ^ suc j

      go : (l : List Loan) → loans_of at (a ++ b) ≡ l → Ordered n at (loans_of at (a ++ b)) → ⊥
      go [] is o = two_lend at x y f is
      go (loan p k ∷ l) is o =
          let o' : Ordered n at (loan p k ∷ l) = rw is at o in
          let w : p + k ≤ n = lent_within n at (loan p k ∷ l) p k o' (inl (refl, refl)) in
          let g : 2 ^ i ≡ 2 ^ suc j = ap (λ (m : ℕ). 2 ^ m) e in
          u.each p (omega (arith, o'.0)) (omega (arith, o'.1)) (rw is (inl (omega arith, omega (arith, o'.1))))

  in_low : c * 2 ^ i + 2 ^ i ≤ 2 ^ j → (Unheld (loans_of at a) at i c → Has a at i) → Has (a ++ b) at i
  in_low m low =
      let v : Unheld (loans_of at a) at i c =
      record { each = λ q f t z. u.each q f t (rw (two_says at x b) (held_left _ (loans_of (at + 2 ^ j) b) q z)) } in
      let r = low v in
      record { place = r.place; pages = r.pages; free = free_left a b at r.place r.pages r.free; enough = r.enough }

  in_high : (d : ℕ) → c * 2 ^ i ≡ 2 ^ j + d * 2 ^ i
      → (d * 2 ^ i + 2 ^ i ≤ 2 ^ j → Unheld (loans_of (at + 2 ^ j) b) (at + 2 ^ j) i d → Has b (at + 2 ^ j) i) → Has (a ++ b) at i
  in_high d e high =
      let v : Unheld (loans_of (at + 2 ^ j) b) (at + 2 ^ j) i d =
      record { each = λ q f t z. u.each q (omega arith) (omega arith) (rw (two_says at x b) (held_right (loans_of at a) _ q z)) } in
      let r = high (omega (arith, double j)) v in
      let z : FreeAt b (at + total a) r.place r.pages = rw (halved_total x) r.free in
      record { place = r.place; pages = r.pages; free = free_right a b at r.place r.pages z; enough = r.enough }

  in_half : (is_free a && is_free b) ≡ false → i ≤ suc j
      → (i ≤ j → c * 2 ^ i + 2 ^ i ≤ 2 ^ j → Unheld (loans_of at a) at i c → Has a at i)
      → ((d : ℕ) → i ≤ j → d * 2 ^ i + 2 ^ i ≤ 2 ^ j → Unheld (loans_of (at + 2 ^ j) b) (at + 2 ^ j) i d → Has b (at + 2 ^ j) i) → Has (a ++ b) at i
  in_half f l low high = go (eq-or-lt_of_le l)
    where
      go : (i ≡ suc j) ⊎ (i < suc j) → Has (a ++ b) at i
      go (inl e) = absurd (not_all f e)
      go (inr e) =
          let g : i ≤ j = omega arith in
          elim (low_or_high i j c g) [ inl m ↦ in_low m (low g m) | inr m ↦ in_high m.0 m.1 (high m.0 g) ]

pub has_free : {j : ℕ} {s : List Segment} (at i c : ℕ) → Halved j s → i ≤ j → c * 2 ^ i + 2 ^ i ≤ 2 ^ j → Unheld (loans_of at s) at i c → Has s at i
unfolding FreeAt loans_of Held
has_free at i c (one j (free n) e) l h u = record { place = at; pages = n; free = inl (refl, refl); enough = omega (arith, e, power_le i j l) }
has_free at i c (one j (held n) e) l h u =
    absurd (u.each (at + c * 2 ^ i) (omega arith) (omega (arith, some_power i)) (inl (omega arith, omega (arith, e, some_power i))))
has_free at i c (two j a b x y f) l h u =
    in_half at i c x y u h f l (λ g m v. has_free at i c x g m v) (λ d g m v. has_free (at + 2 ^ j) i d y g m v)

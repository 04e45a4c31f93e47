-- A MAP BY HALVES IS THE ONE DRAWN BY HALVES FROM THE LOANS THAT IT SAYS: the loans of the low half start before the middle, those of the
-- high half do not, and two halves lend something, since else they would be one free block. And each of its segments is aligned. Assumes
-- nothing.
use mathlib.Core.Path.{◌≡◌, refl, sym, ap, ◌∙◌}
use mathlib.Core.Bool.{Bool, true, false, cond, ◌&&◌, true≢false}
use mathlib.Core.List.{List, [], ◌∷◌, ◌++◌, append-nil}
use mathlib.Core.Logic.{◌⊎◌, inl, inr, ⊎_elim}
use Prim.Native.Nat.{ℕ, zero, suc, ◌+◌, ◌-◌, ◌*◌, ◌^◌, ◌≤◌, ◌<◌}
use native.Mathlib.Nat.{mul-le-mul_right, add-mul}
use native.Mathlib.Omega.{arith}
use lib.Dec.{ltb}
use lib.Pow.{pow-add}
use borrow.Author.Tests.{eq-eqb, ne_eqb, lt-ltb, le-ltb}
use Rattle.arith.proofs.Laws.Power.{some_power, double}
use Rattle.manager.specs.Lists.{any}
use Rattle.manager.specs.Map.{Segment, free, held, is_held_segment, size_of, total}
use Rattle.manager.specs.Halves.{is_whole, is_free, FreeAt}
use Rattle.manager.proofs.Laws.Map.{total_cons}
use Rattle.manager.proofs.Laws.Halves.Cut.{Halved, one, two, halved_sized, halved_total, two_not_whole, none_held}
use Rattle.trace.specs.Loans.{Loan, loan, Lent, Ordered}
use Rattle.trace.specs.Reading.{loans_of}
use Rattle.trace.specs.Halves.{below, from, drawn_block}
use Rattle.trace.specs.Replies.{lends_any}
use Rattle.trace.proofs.Loans.Drawn.{lent_from, lent_within}
use Rattle.trace.proofs.Loans.Says.{any_says, ordered_says, append_says}
use Rattle.trace.proofs.Loans.Tests.{by_leb}

-- ---- the loans before the middle, and the others

below_append : (m : ℕ) (k l : List Loan) → below m (k ++ l) ≡ below m k ++ below m l
unfolding below
below_append m [] l = refl
below_append m (loan a n ∷ k) l = go (ltb a m) (below_append m k l)
  where
    go : (t : Bool) → below m (k ++ l) ≡ below m k ++ below m l
        → cond t (loan a n ∷ below m (k ++ l)) (below m (k ++ l)) ≡ cond t (loan a n ∷ below m k) (below m k) ++ below m l
    go true h = ap (λ (t : List Loan). loan a n ∷ t) h
    go false h = h

from_append : (m : ℕ) (k l : List Loan) → from m (k ++ l) ≡ from m k ++ from m l
unfolding from
from_append m [] l = refl
from_append m (loan a n ∷ k) l = go (ltb a m) (from_append m k l)
  where
    go : (t : Bool) → from m (k ++ l) ≡ from m k ++ from m l
        → cond t (from m (k ++ l)) (loan a n ∷ from m (k ++ l)) ≡ cond t (from m k) (loan a n ∷ from m k) ++ from m l
    go true h = h
    go false h = ap (λ (t : List Loan). loan a n ∷ t) h

-- loans that lie below page m all start before it, and of those that lie from it on none does
all_below : (n at m : ℕ) (l : List Loan) → Ordered n at l → n ≤ m → (below m l ≡ l) × (from m l ≡ [])
unfolding below from Ordered Lent
all_below n at m [] o h = (refl, refl)
all_below n at m (loan a k ∷ l) o h =
    let ih = all_below n (a + k) m l o.2 h in
    let e : ltb a m ≡ true = lt-ltb a m (omega (arith, o.1, lent_within n at (loan a k ∷ l) a k o (inl (refl, refl)))) in
    rw e (ap (λ (t : List Loan). loan a k ∷ t) ih.0, ih.1)

none_below : (n at m : ℕ) (l : List Loan) → Ordered n at l → m ≤ at → (below m l ≡ []) × (from m l ≡ l)
unfolding below from Ordered
none_below n at m [] o h = (refl, refl)
none_below n at m (loan a k ∷ l) o h =
    let ih = none_below n (a + k) m l o.2 (omega (arith, o.0)) in
    let e : ltb a m ≡ false = le-ltb a m (omega (arith, o.0)) in
    rw e (ih.0, ap (λ (t : List Loan). loan a k ∷ t) ih.1)

-- ---- a block, and its halves

pub lent_part : (k l : List Loan) (p n : ℕ) → Lent (k ++ l) p n → Lent k p n ⊎ Lent l p n
unfolding Lent
lent_part [] l p n x = inr x
lent_part (loan a m ∷ k) l p n (inl x) = inl (inl x)
lent_part (loan a m ∷ k) l p n (inr x) = ⊎_elim (λ (y : Lent k p n). inl (inr y)) (λ (y : Lent l p n). inr y) (lent_part k l p n x)

pub drawn_none : (j at : ℕ) → drawn_block j at [] ≡ free (2 ^ j) ∷ []
unfolding drawn_block
drawn_none zero at = refl
drawn_none (suc j) at = refl

-- with a loan, and none of all its pages, it is drawn as its halves
drawn_cut : (j at : ℕ) (l : List Loan) → ¬ (l ≡ []) → ((p n : ℕ) → Lent l p n → n ≤ 2 ^ j)
    → drawn_block (suc j) at l ≡ drawn_block j at (below (at + 2 ^ j) l) ++ drawn_block j (at + 2 ^ j) (from (at + 2 ^ j) l)
unfolding drawn_block Lent
drawn_cut j at [] some small = absurd (some refl)
drawn_cut j at (loan a k ∷ l) some small =
    rw (ne_eqb k (2 ^ suc j) (λ e. omega (arith, small a k (inl (refl, refl)), double j, some_power j)))

pub drawn_two : (j at : ℕ) (k l : List Loan) → Ordered (at + 2 ^ j) at k → Ordered (at + 2 ^ j + 2 ^ j) (at + 2 ^ j) l → ¬ (k ++ l ≡ [])
    → drawn_block (suc j) at (k ++ l) ≡ drawn_block j at k ++ drawn_block j (at + 2 ^ j) l
drawn_two j at k l o u some =
    let m = at + 2 ^ j in
    let low = all_below m at m k o (omega arith) in
    let high = none_below (m + 2 ^ j) m m l u (omega arith) in
    drawn_cut j at (k ++ l) some small
    ∙ rw (below_append m k l, from_append m k l, low.0, low.1, high.0, high.1) (rw (append-nil k))
  where
    small : (p n : ℕ) → Lent (k ++ l) p n → n ≤ 2 ^ j
    small p n x =
        let m = at + 2 ^ j in
        ⊎_elim (λ (y : Lent k p n). omega (arith, lent_from m at k p n o y, lent_within m at k p n o y))
        (λ (y : Lent l p n). omega (arith, lent_from (m + 2 ^ j) m l p n u y, lent_within (m + 2 ^ j) m l p n u y))
        (lent_part k l p n x)

-- two halves lend something
pub two_lend : {j : ℕ} {a b : List Segment} (at : ℕ) → Halved j a → Halved j b → (is_free a && is_free b) ≡ false → ¬ (loans_of at (a ++ b) ≡ [])
unfolding is_whole
two_lend {j} {a} {b} at x y f n =
    let e : any is_held_segment (a ++ b) ≡ false = any_says at (a ++ b) ∙ ap lends_any n in
    let w : is_whole (a ++ b) ≡ true = ap is_whole (none_held (two j a b x y f) e) in
    true≢false (sym w ∙ two_not_whole x y)

-- the loans of a block lie in it; and of two halves they are those of the low and those of the high one
pub block_ordered : {j : ℕ} {s : List Segment} (at : ℕ) → Halved j s → Ordered (at + 2 ^ j) at (loans_of at s)
block_ordered {j} {s} at h = rw (halved_total h) at (ordered_says at s (halved_sized h))

pub two_says : {j : ℕ} {a : List Segment} (at : ℕ) → Halved j a → (b : List Segment) → loans_of at (a ++ b) ≡ loans_of at a ++ loans_of (at + 2 ^ j) b
two_says {j} {a} at x b = rw (halved_total x) at (append_says at a b)

-- THE DRAWN MAP
pub block_drawn : {j : ℕ} {s : List Segment} (at : ℕ) → Halved j s → s ≡ drawn_block j at (loans_of at s)
unfolding loans_of drawn_block
block_drawn at (one j (free n) e) = ap (λ (k : ℕ). free k ∷ []) e ∙ sym (drawn_none j at)
block_drawn at (one zero (held n) e) = ap (λ (k : ℕ). held k ∷ []) e
block_drawn at (one (suc j) (held n) e) = rw (eq-eqb n (2 ^ suc j) e) (ap (λ (k : ℕ). held k ∷ []) e)
block_drawn at (two j a b x y f) =
    let k = loans_of at a in
    let l = loans_of (at + 2 ^ j) b in
    let is : loans_of at (a ++ b) ≡ k ++ l = two_says at x b in
    ap (λ (t : List Segment). t ++ b) (block_drawn at x)
    ∙ ap (λ (t : List Segment). drawn_block j at k ++ t) (block_drawn (at + 2 ^ j) y)
    ∙ sym (drawn_two j at k l (block_ordered at x) (block_ordered (at + 2 ^ j) y) (λ n. two_lend at x y f (is ∙ n)))
    ∙ ap (drawn_block (suc j) at) (sym is)

-- ---- EACH SEGMENT IS ALIGNED

-- a segment of n pages at page p, of a map that starts at page `at`
unfoldable SegmentAt : List Segment → ℕ → ℕ → ℕ → Type 0
SegmentAt [] at p n = ⊥
SegmentAt (g ∷ s) at p n = ((at ≡ p) × (size_of g ≡ n)) ⊎ SegmentAt s (at + size_of g) p n

lent_segment : (s : List Segment) (at p n : ℕ) → Lent (loans_of at s) p n → SegmentAt s at p n
unfolding SegmentAt Lent loans_of
lent_segment [] at p n x = x
lent_segment (free m ∷ s) at p n x = inr (lent_segment s (at + m) p n x)
lent_segment (held m ∷ s) at p n (inl x) = inl x
lent_segment (held m ∷ s) at p n (inr x) = inr (lent_segment s (at + m) p n x)

free_segment : (s : List Segment) (at p n : ℕ) → FreeAt s at p n → SegmentAt s at p n
unfolding SegmentAt FreeAt
free_segment [] at p n x = x
free_segment (held m ∷ s) at p n x = inr (free_segment s (at + m) p n x)
free_segment (free m ∷ s) at p n (inl x) = inl x
free_segment (free m ∷ s) at p n (inr x) = inr (free_segment s (at + m) p n x)

segment_part : (a b : List Segment) (at p n : ℕ) → SegmentAt (a ++ b) at p n → SegmentAt a at p n ⊎ SegmentAt b (at + total a) p n
unfolding SegmentAt total
segment_part [] b at p n x = let e : at + 0 ≡ at = omega arith in inr (rw e x)
segment_part (g ∷ a) b at p n (inl x) = inl (inl x)
segment_part (g ∷ a) b at p n (inr x) =
    let e : at + size_of g + total a ≡ at + total (g ∷ a) = omega (arith, total_cons g a) in
    ⊎_elim (λ (y : SegmentAt a (at + size_of g) p n). inl (inr y)) (λ (y : SegmentAt b (at + total (g ∷ a)) p n). inr y)
    (rw e at (segment_part a b (at + size_of g) p n x))

-- 2^j is so many times 2^i
pub power_times : (i j : ℕ) → i ≤ j → 2 ^ j ≡ 2 ^ (j - i) * 2 ^ i
power_times i j h = let e : j - i + i ≡ j = omega arith in ap (λ (n : ℕ). 2 ^ n) (sym e) ∙ pow-add 2 (j - i) i

-- so 2^i pages from a multiple of 2^i on are among the first 2^j, or behind them, from a multiple of 2^i counted from there
abbrev LowOrHigh : ℕ → ℕ → ℕ → Type 0
LowOrHigh i j c = (c * 2 ^ i + 2 ^ i ≤ 2 ^ j) ⊎ ((d : ℕ) × (c * 2 ^ i ≡ 2 ^ j + d * 2 ^ i))

pub low_or_high : (i j c : ℕ) → i ≤ j → LowOrHigh i j c
low_or_high i j c g = by_leb (2 ^ (j - i)) c (λ (b : Bool). LowOrHigh i j c) high low
  where
    high : 2 ^ (j - i) ≤ c → LowOrHigh i j c
    high m =
        let d = c - 2 ^ (j - i) in
        let e : c ≡ 2 ^ (j - i) + d = omega arith in
        inr (d, ap (λ (n : ℕ). n * 2 ^ i) e ∙ omega (arith, add-mul (2 ^ (j - i)) d (2 ^ i), power_times i j g))

    low : c < 2 ^ (j - i) → LowOrHigh i j c
    low m = let e : suc c * 2 ^ i ≤ 2 ^ (j - i) * 2 ^ i = mul-le-mul_right (2 ^ i) m in inl (omega (arith, power_times i j g))

-- n pages at page p of a block of 2^j pages from page `at` on: 2^i of them, from a multiple of 2^i on
pub record InBlock (j at p n : ℕ) : Type 0 where
  pub level : ℕ
  pub times : ℕ
  pub upto : level ≤ j
  pub pages : n ≡ 2 ^ level
  pub place : p ≡ at + times * 2 ^ level

segment_aligned : {j : ℕ} {s : List Segment} (at p n : ℕ) → Halved j s → SegmentAt s at p n → InBlock j at p n
unfolding SegmentAt
segment_aligned at p n (one j g e) (inl x) = record { level = j; times = 0; upto = omega arith; pages = sym x.1 ∙ e; place = omega (arith, x.0) }
segment_aligned at p n (one j g e) (inr x) = absurd x
segment_aligned at p n (two j a b x y f) z =
    go (rw (halved_total x) at (segment_part a b at p n z)) (λ u. segment_aligned at p n x u) (λ u. segment_aligned (at + 2 ^ j) p n y u)
  where
    go : SegmentAt a at p n ⊎ SegmentAt b (at + 2 ^ j) p n → (SegmentAt a at p n → InBlock j at p n)
        → (SegmentAt b (at + 2 ^ j) p n → InBlock j (at + 2 ^ j) p n) → InBlock (suc j) at p n
    go (inl u) low high =
        let h = low u in
        record { level = h.level; times = h.times; upto = omega (arith, h.upto); pages = h.pages; place = h.place }
    go (inr u) low high =
        let h = high u in
        let t = 2 ^ (j - h.level) in
        record {
          level = h.level;
          times = t + h.times;
          upto = omega (arith, h.upto);
          pages = h.pages;
          place = omega (arith, h.place, power_times h.level j h.upto, add-mul t h.times (2 ^ h.level));
        }

pub lent_aligned : {j : ℕ} {s : List Segment} (at p n : ℕ) → Halved j s → Lent (loans_of at s) p n → InBlock j at p n
lent_aligned {j} {s} at p n h x = segment_aligned at p n h (lent_segment s at p n x)

pub free_aligned : {j : ℕ} {s : List Segment} (at p n : ℕ) → Halved j s → FreeAt s at p n → InBlock j at p n
free_aligned {j} {s} at p n h x = segment_aligned at p n h (free_segment s at p n x)

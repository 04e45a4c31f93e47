-- LOANS THAT ARE ALIGNED AND APART DRAW A MAP BY HALVES, which says them again. A loan of all pages of a block is the only one in it. With
-- none such each loan lies in one half, since it starts at a multiple of its own length, and the halves are drawn each from its own loans;
-- not both are wholly free, since some loan lies in one of them. Assumes nothing.
use mathlib.Core.Path.{◌≡◌, refl, sym, ap, ◌∙◌, subst}
use mathlib.Core.Bool.{Bool, true, false, ◌&&◌}
use mathlib.Core.List.{List, [], ◌∷◌, ◌++◌}
use mathlib.Core.Logic.{◌⊎◌, inl, inr}
use Prim.Native.Nat.{ℕ, zero, suc, ◌+◌, ◌^◌, ◌≤◌}
use native.Mathlib.Nat.{eq-or-lt_of_le}
use native.Mathlib.Omega.{arith}
use borrow.Author.Tests.{eq-eqb}
use Rattle.arith.proofs.Laws.Power.{double}
use Rattle.manager.specs.Map.{Segment, free, held}
use Rattle.manager.specs.Halves.{is_free}
use Rattle.manager.proofs.Laws.Halves.Cut.{Halved, one, two}
use Rattle.trace.specs.Loans.{Loan, loan, Lent, Ordered}
use Rattle.trace.specs.Reading.{loans_of}
use Rattle.trace.specs.Halves.{drawn_block}
use Rattle.trace.proofs.Loans.Drawn.{lent_some, lent_from, lent_within, no_overlap}
use Rattle.trace.proofs.Loans.Tests.{by_eqb}
use Rattle.trace.proofs.Loans.Blocks.Drawn.{InBlock, low_or_high, drawn_none, drawn_two, two_says}
use Rattle.trace.proofs.Loans.Blocks.Steps.{free_says}

-- ---- loans in two parts

lent_left : (k l : List Loan) (p n : ℕ) → Lent k p n → Lent (k ++ l) p n
unfolding Lent
lent_left [] l p n x = absurd x
lent_left (loan a m ∷ k) l p n (inl x) = inl x
lent_left (loan a m ∷ k) l p n (inr x) = inr (lent_left k l p n x)

lent_right : (k l : List Loan) (p n : ℕ) → Lent l p n → Lent (k ++ l) p n
unfolding Lent
lent_right [] l p n x = x
lent_right (loan a m ∷ k) l p n x = inr (lent_right k l p n x)

-- a loan is there
some_loan : (a k : ℕ) (l : List Loan) → ¬ (loan a k ∷ l ≡ [])
some_loan a k l e = let z : ◌≡◌ {A = ℕ} 0 1 = cc in omega arith

-- loans in order of which none crosses page m are those that end there or before, and then those that start there or later
record Parts (n at m : ℕ) (l : List Loan) : Type 0 where
  low : List Loan
  high : List Loan
  is : l ≡ low ++ high
  before : Ordered m at low
  after : Ordered n m high

parts : (n at m : ℕ) (l : List Loan) → Ordered n at l → at ≤ m → m ≤ n → ((p k : ℕ) → Lent l p k → (p + k ≤ m) ⊎ (m ≤ p)) → Parts n at m l
unfolding Ordered Lent
parts n at m [] o b e h = record { low = []; high = []; is = refl; before = b; after = e }
parts n at m (loan a k ∷ l) o b e h = go (h a k (inl (refl, refl))) (λ f. parts n (a + k) m l o.2 f e (λ p i x. h p i (inr x)))
  where
    go : (a + k ≤ m) ⊎ (m ≤ a) → (a + k ≤ m → Parts n (a + k) m l) → Parts n at m (loan a k ∷ l)
    go (inl f) next =
        let r = next f in
        record {
          low = loan a k ∷ r.low;
          high = r.high;
          is = ap (λ (t : List Loan). loan a k ∷ t) r.is;
          before = (o.0, o.1, r.before);
          after = r.after;
        }
    go (inr f) next = record { low = []; high = loan a k ∷ l; is = refl; before = b; after = (f, o.1, o.2) }

-- ---- a block, drawn

-- it is got by halving, and says its loans
pub record Fitted (j at : ℕ) (l : List Loan) : Type 0 where
  pub cut : Halved j (drawn_block j at l)
  pub says : loans_of at (drawn_block j at l) ≡ l

-- of no loan
fitted_none : (j at : ℕ) → Fitted j at []
unfolding loans_of
fitted_none j at = let e = drawn_none j at in record { cut = rw e (one j (free (2 ^ j)) refl); says = ap (loans_of at) e }

-- of a loan of all its pages, which is the only one
drawn_whole : (j at : ℕ) → drawn_block j at (loan at (2 ^ j) ∷ []) ≡ held (2 ^ j) ∷ []
unfolding drawn_block
drawn_whole zero at = refl
drawn_whole (suc j) at = rw (eq-eqb (2 ^ suc j) (2 ^ suc j) refl)

whole_only : (n at a k : ℕ) (l : List Loan) → Ordered (at + n) at (loan a k ∷ l) → k ≡ n → loan a k ∷ l ≡ loan at n ∷ []
unfolding Ordered Lent
whole_only n at a k [] o e = let f : a ≡ at = omega (arith, o.0, o.2) in rw (e, f)
whole_only n at a k (loan b m ∷ l) o e =
    absurd (omega (arith, o.0, o.2.0, o.2.1, lent_within (at + n) (a + k) (loan b m ∷ l) b m o.2 (inl (refl, refl))))

fitted_whole : (j at a k : ℕ) (l : List Loan) → Ordered (at + 2 ^ j) at (loan a k ∷ l) → k ≡ 2 ^ j → Fitted j at (loan a k ∷ l)
unfolding loans_of
fitted_whole j at a k l o e =
    let d = drawn_whole j at in
    rw (whole_only (2 ^ j) at a k l o e) (record { cut = rw d (one j (held (2 ^ j)) refl); says = ap (loans_of at) d })

-- of loans in both halves: where there is one, not both are free
not_both : (at m : ℕ) (a b : List Segment) → ¬ (loans_of at a ++ loans_of m b ≡ []) → (is_free a && is_free b) ≡ false
not_both at m a b some = go (is_free a) refl (is_free b) refl
  where
    go : (t : Bool) → is_free a ≡ t → (u : Bool) → is_free b ≡ u → (t && u) ≡ false
    go true e true f = absurd (some (rw (free_says at a e, free_says m b f)))
    go true e false f = refl
    go false e u f = refl

fitted_two : (j at : ℕ) (k l : List Loan) → Ordered (at + 2 ^ j) at k → Ordered (at + 2 ^ j + 2 ^ j) (at + 2 ^ j) l → ¬ (k ++ l ≡ [])
    → Fitted j at k → Fitted j (at + 2 ^ j) l → Fitted (suc j) at (k ++ l)
fitted_two j at k l o u some x y =
    let a = drawn_block j at k in
    let b = drawn_block j (at + 2 ^ j) l in
    let e : drawn_block (suc j) at (k ++ l) ≡ a ++ b = drawn_two j at k l o u some in
    let s : loans_of at a ++ loans_of (at + 2 ^ j) b ≡ k ++ l = rw (x.says, y.says) in
    record {
      cut = rw e (two j a b x.cut y.cut (not_both at (at + 2 ^ j) a b (λ n. some (sym s ∙ n))));
      says = ap (loans_of at) e ∙ two_says at x.cut b ∙ s;
    }

-- ---- a loan of less than all pages

-- it lies in one half, and is aligned there
abbrev Sides : ℕ → ℕ → ℕ → ℕ → Type 0
Sides j at p k = (InBlock j at p k × (p + k ≤ at + 2 ^ j)) ⊎ (InBlock j (at + 2 ^ j) p k × (at + 2 ^ j ≤ p))

side : (j at p k : ℕ) → InBlock (suc j) at p k → ¬ (k ≡ 2 ^ suc j) → Sides j at p k
side j at p k h less = go (eq-or-lt_of_le h.upto)
  where
    go : (h.level ≡ suc j) ⊎ (suc h.level ≤ suc j) → Sides j at p k
    go (inl e) = absurd (less (h.pages ∙ ap (λ (i : ℕ). 2 ^ i) e))
    go (inr e) =
        let f : h.level ≤ j = omega arith in
        elim (low_or_high h.level j h.times f) [
          | inl x ↦
              inl (
                record { level = h.level; times = h.times; upto = f; pages = h.pages; place = h.place },
                omega (arith, h.pages, h.place),
              )
          | inr x ↦
              inr (
                record { level = h.level; times = x.0; upto = f; pages = h.pages; place = omega (arith, h.place, x.1) },
                omega (arith, h.place, x.1),
              )
        ]

-- where the first is not one of all pages, none is
none_whole : (n at a k : ℕ) (l : List Loan) → Ordered (at + n) at (loan a k ∷ l) → ¬ (k ≡ n) → (p m : ℕ) → Lent (loan a k ∷ l) p m → ¬ (m ≡ n)
unfolding Ordered Lent
none_whole n at a k l o less p m x e =
    let t = loan a k ∷ l in
    let first : Lent t a k = inl (refl, refl) in
    elim (no_overlap (at + n) at t o a k p m first x) [
      | inl y ↦ less (y.1 ∙ e)
      | inr y ↦ elim y [
        | inl z ↦ omega (arith, o.0, o.1, lent_within (at + n) at t p m o x)
        | inr z ↦ omega (arith, o.1, lent_from (at + n) at t p m o x, lent_within (at + n) at t a k o first)
      ]
    ]

-- where all loans are such, each half is drawn from its own; what is said of the halves is handed in
fitted_halves : (j at : ℕ) (l : List Loan) → Ordered (at + 2 ^ j + 2 ^ j) at l → ¬ (l ≡ []) → ((p k : ℕ) → Lent l p k → Sides j at p k)
    → ((t : List Loan) → Ordered (at + 2 ^ j) at t → ((p k : ℕ) → Lent t p k → InBlock j at p k) → Fitted j at t)
    → ((t : List Loan) → Ordered (at + 2 ^ j + 2 ^ j) (at + 2 ^ j) t → ((p k : ℕ) → Lent t p k → InBlock j (at + 2 ^ j) p k)
    → Fitted j (at + 2 ^ j) t)
    → Fitted (suc j) at l
fitted_halves j at l o some each low high =
    rw c.is
    (fitted_two j at c.low c.high c.before c.after (λ e. some (c.is ∙ e)) (low c.low c.before in_low)
    (high c.high c.after in_high))
  where
    m : ℕ
    m = at + 2 ^ j

    apart : (p k : ℕ) → Lent l p k → (p + k ≤ m) ⊎ (m ≤ p)
    apart p k x = elim (each p k x) [ inl y ↦ inl y.1 | inr y ↦ inr y.1 ]

    c : Parts (m + 2 ^ j) at m l
    c = parts (m + 2 ^ j) at m l o (omega arith) (omega arith) apart

    in_low : (p k : ℕ) → Lent c.low p k → InBlock j at p k
    in_low p k x =
        elim (each p k (rw c.is (lent_left c.low c.high p k x))) [
          | inl y ↦ y.0
          | inr y ↦ absurd (omega (arith, y.1, lent_some m at c.low p k c.before x, lent_within m at c.low p k c.before x))
        ]

    in_high : (p k : ℕ) → Lent c.high p k → InBlock j m p k
    in_high p k x =
        let n = m + 2 ^ j in
        elim (each p k (rw c.is (lent_right c.low c.high p k x))) [
          | inl y ↦ absurd (omega (arith, y.1, lent_some n m c.high p k c.after x, lent_from n m c.high p k c.after x))
          | inr y ↦ y.0
        ]

-- THE LOANS FIT
pub fitted : (j at : ℕ) (l : List Loan) → Ordered (at + 2 ^ j) at l → ((p k : ℕ) → Lent l p k → InBlock j at p k) → Fitted j at l
unfolding Ordered Lent
fitted zero at [] o h = fitted_none 0 at
fitted (suc j) at [] o h = fitted_none (suc j) at
fitted zero at (loan a k ∷ l) o h =
    fitted_whole 0 at a k l o (omega (arith, o.0, o.1, lent_within (at + 1) at (loan a k ∷ l) a k o (inl (refl, refl))))
fitted (suc j) at (loan a k ∷ l) o h =
    let t = loan a k ∷ l in
    let e : at + 2 ^ suc j ≡ at + 2 ^ j + 2 ^ j = omega (arith, double j) in
    by_eqb k (2 ^ suc j) (λ (b : Bool). Fitted (suc j) at t) (λ whole. fitted_whole (suc j) at a k l o whole)
    (λ less. fitted_halves j at t (subst (λ (x : ℕ). Ordered x at t) e o) (some_loan a k l) (λ p i x. side j at p i (h p i x) (none_whole (2 ^ suc j) at a k l o less p i x))
    (λ t v g. fitted j at t v g) (λ t v g. fitted j (at + 2 ^ j) t v g))

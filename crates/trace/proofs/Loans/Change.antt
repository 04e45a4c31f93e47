-- What a loan of a drawn map can have, and what a return or a resize leaves, are read off the loans. Each function is first taken
-- past the free pages in front of a loan, and then by induction over the loans. Assumes nothing.
use mathlib.Core.Path.{◌≡◌, refl, ap, ◌∙◌}
use mathlib.Core.Bool.{Bool, cond}
use mathlib.Core.List.{List, [], ◌∷◌}
use mathlib.Core.Logic.{inl, inr, ◌↔◌}
use Prim.Native.Nat.{ℕ, zero, suc, ◌+◌, ◌-◌, ◌≤◌}
use native.Mathlib.Omega.{arith}
use native.Mathlib.Nat.{add-zero}
use lib.Dec.{eqb}
use borrow.Author.Tests.{eq-eqb, ne_eqb}
use Rattle.manager.specs.Map.{held}
use Rattle.manager.specs.Paged.{free+, held+, lead, rest, reach_from, change_from}
use Rattle.manager.proofs.Laws.Paged.{free_join}
use Rattle.trace.specs.Loans.{Loan, loan, loan+, amend, Lent, Held, Ordered, Span, behind}
use Rattle.trace.specs.Pages.{drawn, Room, up_to, most_pages_at}
use Rattle.trace.proofs.Loans.Tests.{by_leb}
use Rattle.trace.proofs.Loans.Drawn.{onward, drawn_next, lead_onward, rest_onward, ordered_next, ordered_end, ordered_from, held_after, next_held, lent_after}

-- ---- past the free pages in front

pub reach_gap : (n p at g : ℕ) (l : List Loan) → reach_from p at (free+ g (onward n l)) ≡ reach_from p (at + g) (onward n l)
unfolding free+ reach_from
reach_gap n p at zero l = rw add-zero
reach_gap n p at (suc g) [] = refl
reach_gap n p at (suc g) (loan a m ∷ l) = refl

change_gap : (n p k at g : ℕ) (l : List Loan) → change_from p k at (free+ g (onward n l)) ≡ free+ g (change_from p k (at + g) (onward n l))
unfolding free+ change_from
change_gap n p k at zero l = rw add-zero
change_gap n p k at (suc g) [] = refl
change_gap n p k at (suc g) (loan a m ∷ l) = refl

-- ---- at the first loan

-- the most that a loan of m pages at page a can have, with the loans l behind it
abbrev pub most_at : ℕ → ℕ → ℕ → List Loan → ℕ
most_at n a m l = m + (up_to n l - (a + m))

module _ (n p at a m : ℕ) (l : List Loan) (o : Ordered n at (loan a m ∷ l)) where
  there : at + (a - at) ≡ a
  unfolding Ordered
  there = omega arith

  pub reach_first : reach_from p at (drawn n at (loan a m ∷ l)) ≡ cond (eqb a p) (most_at n a m l) (reach_from p (a + m) (drawn n (a + m) l))
  unfolding reach_from
  reach_first =
      let e : lead (drawn n (a + m) l) ≡ up_to n l - (a + m) = ap lead (drawn_next n (a + m) l) ∙ lead_onward (up_to n l - (a + m)) n l in
      rw (drawn_next n at (loan a m ∷ l), reach_gap n p at (a - at) (loan a m ∷ l), there, e)

  change_first : (k : ℕ) → change_from p k at (drawn n at (loan a m ∷ l))
      ≡ free+ (a - at) (cond (eqb a p) (held+ k (free+ (most_at n a m l - k) (onward n l))) (held m ∷ change_from p k (a + m) (drawn n (a + m) l)))
  unfolding change_from
  change_first k =
      let e : lead (drawn n (a + m) l) ≡ up_to n l - (a + m) = ap lead (drawn_next n (a + m) l) ∙ lead_onward (up_to n l - (a + m)) n l in
      let r : rest (drawn n (a + m) l) ≡ onward n l = ap rest (drawn_next n (a + m) l) ∙ rest_onward (up_to n l - (a + m)) n l in
      rw (drawn_next n at (loan a m ∷ l), change_gap n p k at (a - at) (loan a m ∷ l), there, e, r)

  -- a loan behind the first does not start where that does
  lent_behind : (k : ℕ) → Lent l p k → ¬ (a ≡ p)
  unfolding Ordered
  lent_behind k x e = omega (arith, o.1, ordered_next n (a + m) l o.2, lent_after n (a + m) l p k o.2 x)

-- ---- the most that a loan can have

room_here : (r : Span) (at a m : ℕ) (l : List Loan) → Ordered (behind r) at (loan a m ∷ l) → (k : ℕ)
    → (k ≤ most_at (behind r) a m l) ↔ Room r (loan a m ∷ l) a m k
unfolding Ordered Held
room_here r at a m l o k =
    let n = behind r in
    let le : a + m ≤ up_to n l = ordered_next n (a + m) l o.2 in
    let end : up_to n l ≤ n = ordered_end n (a + m) l o.2 in (
      λ h. record {
        upto = omega arith;
        unheld = λ q b u x. elim x [ inl y ↦ omega arith | inr y ↦ omega (arith, held_after n (a + m) l q o.2 y) ];
      },
      λ i. by_leb k (most_at n a m l) (λ (t : Bool). k ≤ most_at n a m l) (λ h. h)
          (λ h. absurd (i.unheld (up_to n l) le (omega arith) (inr (next_held n (a + m) l o.2 (omega (arith, i.upto)))))),
    )

room_behind : (r : Span) (at a m : ℕ) (l : List Loan) → Ordered (behind r) at (loan a m ∷ l) → (p j k : ℕ) → Lent l p j
    → Room r l p j k ↔ Room r (loan a m ∷ l) p j k
unfolding Ordered Held
room_behind r at a m l o p j k x =
    let n = behind r in
    let le : a + m ≤ up_to n l = ordered_next n (a + m) l o.2 in
    let from : up_to n l ≤ p = lent_after n (a + m) l p j o.2 x in (
      λ i. record { upto = i.upto; unheld = λ q b u x. elim x [ inl y ↦ omega arith | inr y ↦ i.unheld q b u y ] },
      λ i. record { upto = i.upto; unheld = λ q b u x. i.unheld q b u (inr x) },
    )

-- IT CAN HAVE k PAGES WHERE THERE IS ROOM FOR THEM BY THE LOANS
pub reach_is : (r : Span) (at : ℕ) (l : List Loan) (p m k : ℕ) → Ordered (behind r) at l → Lent l p m
    → (k ≤ reach_from p at (drawn (behind r) at l)) ↔ Room r l p m k
unfolding Ordered Lent
reach_is r at [] p m k o x = absurd x
reach_is r at (loan a j ∷ l) p m k o (inl x) =
    rw (reach_first (behind r) p at a j l o, eq-eqb a p x.0, ← x.0, ← x.1) (room_here r at a j l o k)
reach_is r at (loan a j ∷ l) p m k o (inr x) =
    let ih = reach_is r (a + j) l p m k o.2 x in
    let b = room_behind r at a j l o p m k x in
    rw (reach_first (behind r) p at a j l o, ne_eqb a p (lent_behind (behind r) p at a j l o m x)) (λ h. b.0 (ih.0 h), λ i. ih.1 (b.1 i))

-- and that is the most by the loans
pub most_from : (n p at : ℕ) (l : List Loan) → Ordered n at l → reach_from p at (drawn n at l) ≡ most_pages_at n p l
unfolding most_pages_at reach_from Ordered
most_from n p at [] o = ap (reach_from p at) (drawn_next n at []) ∙ reach_gap n p at (n - at) []
most_from n p at (loan q k ∷ l) o =
    let g : k + (up_to n l - (q + k)) ≡ up_to n l - q = omega (arith, ordered_next n (q + k) l o.2) in
    reach_first n p at q k l o ∙ rw (g, most_from n p (q + k) l o.2)

-- ---- return and resize

pub amend_first : (a m p k : ℕ) (l : List Loan) → a ≡ p → amend p k (loan a m ∷ l) ≡ loan+ a k l
unfolding amend
amend_first a m p k l e = rw (eq-eqb a p e)

pub amend_behind : (a m p k : ℕ) (l : List Loan) → ¬ (a ≡ p) → amend p k (loan a m ∷ l) ≡ loan a m ∷ amend p k l
unfolding amend
amend_behind a m p k l h = rw (ne_eqb a p h)

module _ (n at a m : ℕ) (l : List Loan) (o : Ordered n at (loan a m ∷ l)) where
  drawn_here : (k : ℕ) → k ≤ most_at n a m l → free+ (a - at) (held+ k (free+ (most_at n a m l - k) (onward n l))) ≡ drawn n at (loan+ a k l)
  unfolding Ordered
  drawn_here zero h =
      let le : a + m ≤ up_to n l = ordered_next n (a + m) l o.2 in
      let same : a - at + (most_at n a m l - 0) ≡ up_to n l - at = omega arith in
      free_join (a - at) (most_at n a m l - 0) (onward n l) ∙ rw (same, drawn_next n at l)
  drawn_here (suc k) h =
      let le : a + m ≤ up_to n l = ordered_next n (a + m) l o.2 in
      let same : most_at n a m l - suc k ≡ up_to n l - (a + suc k) = omega arith in
      rw (drawn_next n at (loan a (suc k) ∷ l), same, drawn_next n (a + suc k) l)

  ordered_here : (k : ℕ) → k ≤ most_at n a m l → Ordered n at (loan+ a k l)
  unfolding Ordered
  ordered_here zero h = ordered_from n (a + m) at l o.2 (omega (arith, ordered_next n (a + m) l o.2))
  ordered_here (suc k) h = (o.0, omega arith, ordered_from n (a + m) (a + suc k) l o.2 (omega (arith, ordered_next n (a + m) l o.2)))

-- THE LOAN HAS k PAGES FROM THEN ON
pub changed : (n at : ℕ) (l : List Loan) (p m k : ℕ) → Ordered n at l → Lent l p m → k ≤ reach_from p at (drawn n at l)
    → (change_from p k at (drawn n at l) ≡ drawn n at (amend p k l)) × Ordered n at (amend p k l)
unfolding Ordered Lent
changed n at [] p m k o x h = absurd x
changed n at (loan a j ∷ l) p m k o (inl x) h =
    let reach : reach_from p at (drawn n at (loan a j ∷ l)) ≡ most_at n a j l = reach_first n p at a j l o ∙ rw (eq-eqb a p x.0) in
    let is : amend p k (loan a j ∷ l) ≡ loan+ a k l = amend_first a j p k l x.0 in (
      change_first n p at a j l o k ∙ rw (eq-eqb a p x.0, is) (drawn_here n at a j l o k (omega arith)),
      rw is (ordered_here n at a j l o k (omega arith)),
    )
changed n at (loan a j ∷ l) p m k o (inr x) h =
    let ne : ¬ (a ≡ p) = lent_behind n p at a j l o m x in
    let reach : reach_from p at (drawn n at (loan a j ∷ l)) ≡ reach_from p (a + j) (drawn n (a + j) l) = reach_first n p at a j l o ∙ rw (ne_eqb a p ne) in
    let is : amend p k (loan a j ∷ l) ≡ loan a j ∷ amend p k l = amend_behind a j p k l ne in
    let ih = changed n (a + j) l p m k o.2 x (rw reach at h) in (
      change_first n p at a j l o k ∙ rw (ne_eqb a p ne, is, ih.0, drawn_next n at (loan a j ∷ amend p k l)),
      rw is (o.0, o.1, ih.1),
    )

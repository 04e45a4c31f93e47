-- A get, a return and a resize by halves, by the loans: where k pages of a free block are held, a loan of k pages at its place is entered;
-- where a held block is freed, its loan is struck; and a loan that has the size that it has is the same. Assumes nothing.
use mathlib.Core.Path.{◌≡◌, refl, sym, ap, ◌∙◌}
use mathlib.Core.Bool.{Bool, true, false, cond, ◌&&◌}
use mathlib.Core.List.{List, [], ◌∷◌, ◌++◌}
use mathlib.Core.Logic.{◌⊎◌, inl, inr}
use Prim.Native.Nat.{ℕ, zero, suc, ◌+◌, ◌^◌, ◌≤◌, ◌<◌}
use native.Mathlib.Nat.{eq-or-lt_of_le}
use native.Mathlib.Omega.{arith}
use lib.Dec.{eqb, leb}
use borrow.Author.Tests.{eq-eqb, ne_eqb, le-leb, lt-leb}
use Rattle.arith.specs.Power.{level}
use Rattle.arith.proofs.Laws.Power.{some_power, double, power_le, level_power}
use Rattle.manager.specs.Map.{Segment, free, held, total}
use Rattle.manager.specs.Halves.{is_free, FreeAt, carve, occupy_block, join, release_block}
use Rattle.manager.proofs.Laws.Map.{Sized}
use Rattle.manager.proofs.Laws.Halves.Cut.{Halved, one, two, free_is, halved_total}
use Rattle.manager.proofs.Laws.Halves.Place.{free_within}
use Rattle.manager.proofs.Laws.Halves.Take.{carve_total, carve_step}
use Rattle.manager.proofs.Laws.Halves.Release.{release_total, release_one, release_low, release_high}
use Rattle.trace.specs.Loans.{Loan, loan, loan+, enter, amend, Lent, pages_at}
use Rattle.trace.specs.Reading.{loans_of}
use Rattle.trace.specs.Pages.{up_to}
use Rattle.trace.proofs.Loans.Drawn.{ordered_next, lent_some, lent_from, lent_within}
use Rattle.trace.proofs.Loans.Get.{enter_first, enter_behind}
use Rattle.trace.proofs.Loans.Change.{amend_first}
use Rattle.trace.proofs.Loans.Says.{ordered_says, append_says}
use Rattle.trace.proofs.Loans.Blocks.Drawn.{lent_part, block_ordered, two_says}

-- ---- A GET

-- a block that is cut lends its first pages
carve_says : (j i at : ℕ) → i ≤ j → loans_of at (carve j (2 ^ i) (2 ^ j)) ≡ loan at (2 ^ i) ∷ []
unfolding carve loans_of
carve_says zero i at h = let e : i ≡ 0 = omega arith in rw e
carve_says (suc j) i at h = rw (carve_step j (2 ^ i)) (go (eq-or-lt_of_le h) (λ l. carve_says j i at l))
  where
    go : (i ≡ suc j) ⊎ (i < suc j) → (i ≤ j → loans_of at (carve j (2 ^ i) (2 ^ j)) ≡ loan at (2 ^ i) ∷ [])
        → loans_of at (cond (leb (2 ^ suc j) (2 ^ i)) (held (2 ^ suc j) ∷ []) (carve j (2 ^ i) (2 ^ j) ++ (free (2 ^ j) ∷ []))) ≡ loan at (2 ^ i) ∷ []
    go (inl e) low = rw (e, le-leb (2 ^ suc j) (2 ^ suc j) (omega arith))
    go (inr l) low =
        let s : 2 ^ i < 2 ^ suc j = omega (arith, power_le i j (omega arith), double j, some_power j) in
        rw (lt-leb (2 ^ suc j) (2 ^ i) s) (append_says at (carve j (2 ^ i) (2 ^ j)) (free (2 ^ j) ∷ []) ∙ rw (low (omega arith)))

-- a free block of 2^j pages at page p, in its map
pub occupy_says : (p i j at : ℕ) (s : List Segment) → i ≤ j → Sized s → FreeAt s at p (2 ^ j)
    → loans_of at (occupy_block p (2 ^ i) at s) ≡ enter p (2 ^ i) (loans_of at s)
unfolding occupy_block FreeAt loans_of
occupy_says p i j at [] h w x = absurd x
occupy_says p i j at (held m ∷ s) h w x =
    ap (λ (l : List Loan). loan at m ∷ l) (occupy_says p i j (at + m) s h w.1 x)
    ∙ sym (enter_behind at m p (2 ^ i) (loans_of (at + m) s) (omega (arith, w.0, (free_within s (at + m) p (2 ^ j) x).0)))
occupy_says p i j at (free m ∷ s) h w (inl x) =
    let l = loans_of (at + m) s in
    let n = at + m + total s in
    let o : at + m ≤ up_to n l = ordered_next n (at + m) l (ordered_says (at + m) s w.1) in
    let c : loans_of at (carve (level m) (2 ^ i) m ++ s) ≡ loan at (2 ^ i) ∷ l =
    append_says at (carve (level m) (2 ^ i) m) s ∙ rw (carve_total (level m) (2 ^ i) m, x.1, level_power j, carve_says j i at h) in
    rw (eq-eqb at p x.0) (c ∙ rw (← x.0) (sym (enter_first n at (2 ^ i) l (omega arith))))
occupy_says p i j at (free m ∷ s) h w (inr x) =
    rw (ne_eqb at p (λ e. omega (arith, w.0, (free_within s (at + m) p (2 ^ j) x).0))) (occupy_says p i j (at + m) s h w.1 x)

-- ---- A RETURN

-- the halves put together lend what they lent
pub free_says : (at : ℕ) (s : List Segment) → is_free s ≡ true → loans_of at s ≡ []
unfolding loans_of
free_says at s e = ap (loans_of at) (free_is s e)

join_says : (at : ℕ) (a b : List Segment) → loans_of at (join a b) ≡ loans_of at a ++ loans_of (at + total a) b
unfolding join loans_of
join_says at a b = go (is_free a) refl (is_free b) refl
  where
    go : (t : Bool) → is_free a ≡ t → (u : Bool) → is_free b ≡ u
        → loans_of at (cond (t && u) (free (total a + total b) ∷ []) (a ++ b)) ≡ loans_of at a ++ loans_of (at + total a) b
    go true e true f = rw (free_says at a e, free_says (at + total a) b f)
    go true e false f = append_says at a b
    go false e u f = append_says at a b

-- a loan struck from those of the low half, or of the high one
strike_low : (p n : ℕ) (k l : List Loan) → Lent k p n → amend p 0 (k ++ l) ≡ amend p 0 k ++ l
unfolding amend Lent
strike_low p n [] l x = absurd x
strike_low p n (loan a m ∷ k) l (inl x) = rw (eq-eqb a p x.0)
strike_low p n (loan a m ∷ k) l (inr x) = go (eqb a p) (strike_low p n k l x)
  where
    go : (t : Bool) → amend p 0 (k ++ l) ≡ amend p 0 k ++ l
        → cond t (k ++ l) (loan a m ∷ amend p 0 (k ++ l)) ≡ cond t k (loan a m ∷ amend p 0 k) ++ l
    go true h = refl
    go false h = ap (λ (t : List Loan). loan a m ∷ t) h

strike_high : (p : ℕ) (k l : List Loan) → ((n : ℕ) → ¬ Lent k p n) → amend p 0 (k ++ l) ≡ k ++ amend p 0 l
unfolding amend Lent
strike_high p [] l h = refl
strike_high p (loan a m ∷ k) l h =
    rw (ne_eqb a p (λ e. h m (inl (e, refl)))) (ap (λ (t : List Loan). loan a m ∷ t) (strike_high p k l (λ n x. h n (inr x))))

pub release_says : {j : ℕ} {s : List Segment} (p n at : ℕ) → Halved j s → Lent (loans_of at s) p n
    → loans_of at (release_block j p at s) ≡ amend p 0 (loans_of at s)
unfolding loans_of Lent
release_says p n at (one j (free m) e) x = absurd x
release_says p n at (one j (held m) e) (inl x) = ap (loans_of at) (release_one j p at (held m)) ∙ sym (amend_first at m p 0 [] x.0)
release_says p n at (one j (held m) e) (inr x) = absurd x
release_says p n at (two j a b x y f) z =
    go (lent_part k l p n (rw is at z)) (λ u. release_says p n at x u) (λ u. release_says p n (at + 2 ^ j) y u)
  where
    k : List Loan
    k = loans_of at a

    l : List Loan
    l = loans_of (at + 2 ^ j) b

    is : loans_of at (a ++ b) ≡ k ++ l
    is = two_says at x b

    go : Lent k p n ⊎ Lent l p n → (Lent k p n → loans_of at (release_block j p at a) ≡ amend p 0 k)
        → (Lent l p n → loans_of (at + 2 ^ j) (release_block j p (at + 2 ^ j) b) ≡ amend p 0 l)
        → loans_of at (release_block (suc j) p at (a ++ b)) ≡ amend p 0 (loans_of at (a ++ b))
    go (inl u) low high =
        let o = block_ordered at x in
        let w : p < at + 2 ^ j = omega (arith, lent_within (at + 2 ^ j) at k p n o u, lent_some (at + 2 ^ j) at k p n o u) in
        ap (loans_of at) (release_low j p at a b x y w) ∙ join_says at (release_block j p at a) b
        ∙ rw (release_total j p at a, halved_total x, low u, is) (sym (strike_low p n k l u))
    go (inr u) low high =
        let o = block_ordered at x in
        let w : at + 2 ^ j ≤ p = lent_from (at + 2 ^ j + 2 ^ j) (at + 2 ^ j) l p n (block_ordered (at + 2 ^ j) y) u in
        ap (loans_of at) (release_high j p at a b x y w) ∙ join_says at a (release_block j p (at + 2 ^ j) b)
        ∙ rw (halved_total x, high u, is)
        (sym (strike_high p k l (λ m v. omega (arith, lent_within (at + 2 ^ j) at k p m o v, lent_some (at + 2 ^ j) at k p m o v))))

-- ---- A RESIZE to the size that the loan has

pub amend_same : (p : ℕ) (l : List Loan) → ¬ (pages_at p l ≡ 0) → amend p (pages_at p l) l ≡ l
unfolding amend pages_at
amend_same p [] h = refl
amend_same p (loan a n ∷ l) h = go (eqb a p) h (amend_same p l)
  where
    first : (n : ℕ) → ¬ (n ≡ 0) → loan+ a n l ≡ loan a n ∷ l
    first zero z = absurd (z refl)
    first (suc n) z = refl

    go : (t : Bool) → ¬ (cond t n (pages_at p l) ≡ 0) → (¬ (pages_at p l ≡ 0) → amend p (pages_at p l) l ≡ l)
        → cond t (loan+ a (cond t n (pages_at p l)) l) (loan a n ∷ amend p (cond t n (pages_at p l)) l) ≡ loan a n ∷ l
    go true z ih = first n z
    go false z ih = ap (λ (t : List Loan). loan a n ∷ t) (ih z)

-- The map drawn from a region's loans: its first free pages, and what is behind them. Where loans are in order, they lie behind page
-- `at`, and so does what they hold. Assumes nothing.
use mathlib.Core.Path.{◌≡◌, refl, sym, ◌∙◌}
use mathlib.Core.List.{List, [], ◌∷◌}
use mathlib.Core.Logic.{◌⊎◌, inl, inr}
use Prim.Native.Nat.{ℕ, zero, suc, ◌+◌, ◌-◌, ◌≤◌, ◌<◌}
use native.Mathlib.Omega.{arith}
use Rattle.manager.specs.Map.{Segment, held}
use Rattle.manager.specs.Paged.{free+, lead, rest}
use Rattle.trace.specs.Loans.{Loan, loan, Lent, Held, Ordered}
use Rattle.trace.specs.Pages.{run+, drawn, up_to}

-- the map from where the first loan starts on
abbrev pub onward : ℕ → List Loan → List Segment
onward n [] = []
onward n (loan a k ∷ l) = held k ∷ drawn n (a + k) l

-- there a run of unheld pages has no free segment behind it to be joined to
run_free : (g n : ℕ) (l : List Loan) → run+ g (onward n l) ≡ free+ g (onward n l)
unfolding free+
run_free zero n l = refl
run_free (suc g) n [] = refl
run_free (suc g) n (loan a k ∷ l) = refl

-- THE DRAWN MAP IS ITS FIRST FREE PAGES, AND THE MAP BEHIND THEM
pub drawn_next : (n at : ℕ) (l : List Loan) → drawn n at l ≡ free+ (up_to n l - at) (onward n l)
unfolding drawn
drawn_next n at [] = run_free (n - at) n []
drawn_next n at (loan a k ∷ l) = run_free (a - at) n (loan a k ∷ l)

-- the free pages in front are the leading segment, and the rest is behind them
pub lead_onward : (g n : ℕ) (l : List Loan) → lead (free+ g (onward n l)) ≡ g
unfolding free+ lead
lead_onward zero n [] = refl
lead_onward zero n (loan a k ∷ l) = refl
lead_onward (suc g) n [] = refl
lead_onward (suc g) n (loan a k ∷ l) = refl

pub rest_onward : (g n : ℕ) (l : List Loan) → rest (free+ g (onward n l)) ≡ onward n l
unfolding free+ rest
rest_onward zero n [] = refl
rest_onward zero n (loan a k ∷ l) = refl
rest_onward (suc g) n [] = refl
rest_onward (suc g) n (loan a k ∷ l) = refl

-- loans in order start at page `at` or later, and end at page n or before
pub ordered_next : (n at : ℕ) (l : List Loan) → Ordered n at l → at ≤ up_to n l
unfolding Ordered
ordered_next n at [] o = o
ordered_next n at (loan a k ∷ l) o = o.0

pub ordered_end : (n at : ℕ) (l : List Loan) → Ordered n at l → up_to n l ≤ n
unfolding Ordered
ordered_end n at [] o = omega arith
ordered_end n at (loan a k ∷ l) o = omega (arith, ordered_next n (a + k) l o.2, ordered_end n (a + k) l o.2)

-- they are in order from any page that is not behind the first
pub ordered_from : (n at at' : ℕ) (l : List Loan) → Ordered n at l → at' ≤ up_to n l → Ordered n at' l
unfolding Ordered
ordered_from n at at' [] o h = h
ordered_from n at at' (loan a k ∷ l) o h = (h, o.1, o.2)

-- what is held lies from the first loan on, and the page there is held
pub held_after : (n at : ℕ) (l : List Loan) (q : ℕ) → Ordered n at l → Held l q → up_to n l ≤ q
unfolding Ordered Held
held_after n at [] q o h = absurd h
held_after n at (loan a k ∷ l) q o (inl h) = h.0
held_after n at (loan a k ∷ l) q o (inr h) = omega (arith, ordered_next n (a + k) l o.2, held_after n (a + k) l q o.2 h)

pub next_held : (n at : ℕ) (l : List Loan) → Ordered n at l → up_to n l < n → Held l (up_to n l)
unfolding Ordered Held
next_held n at [] o h = omega arith
next_held n at (loan a k ∷ l) o h = inl (omega arith)

-- so do the loans
pub lent_after : (n at : ℕ) (l : List Loan) (p k : ℕ) → Ordered n at l → Lent l p k → up_to n l ≤ p
unfolding Ordered Lent
lent_after n at [] p k o h = absurd h
lent_after n at (loan a m ∷ l) p k o (inl h) = omega arith
lent_after n at (loan a m ∷ l) p k o (inr h) = omega (arith, ordered_next n (a + m) l o.2, lent_after n (a + m) l p k o.2 h)

-- A LOAN HAS A PAGE, AND LIES IN THE REGION
pub lent_some : (n at : ℕ) (l : List Loan) (p k : ℕ) → Ordered n at l → Lent l p k → 0 < k
unfolding Ordered Lent
lent_some n at [] p k o h = absurd h
lent_some n at (loan a m ∷ l) p k o (inl h) = omega arith
lent_some n at (loan a m ∷ l) p k o (inr h) = lent_some n (a + m) l p k o.2 h

pub lent_from : (n at : ℕ) (l : List Loan) (p k : ℕ) → Ordered n at l → Lent l p k → at ≤ p
lent_from n at l p k o x = omega (arith, ordered_next n at l o, lent_after n at l p k o x)

pub lent_within : (n at : ℕ) (l : List Loan) (p k : ℕ) → Ordered n at l → Lent l p k → p + k ≤ n
unfolding Ordered Lent
lent_within n at [] p k o h = absurd h
lent_within n at (loan a m ∷ l) p k o (inl h) = omega (arith, ordered_next n (a + m) l o.2, ordered_end n (a + m) l o.2)
lent_within n at (loan a m ∷ l) p k o (inr h) = lent_within n (a + m) l p k o.2 h

-- TWO LOANS ARE ONE, OR ONE ENDS BEFORE THE OTHER STARTS
pub no_overlap : (n at : ℕ) (l : List Loan) → Ordered n at l → (a k b m : ℕ) → Lent l a k → Lent l b m
    → ((a ≡ b) × (k ≡ m)) ⊎ ((a + k ≤ b) ⊎ (b + m ≤ a))
unfolding Ordered Lent
no_overlap n at [] o a k b m x y = absurd x
no_overlap n at (loan c j ∷ l) o a k b m (inl x) (inl y) = inl (sym x.0 ∙ y.0, sym x.1 ∙ y.1)
no_overlap n at (loan c j ∷ l) o a k b m (inl x) (inr y) =
    inr (inl (omega (arith, ordered_next n (c + j) l o.2, lent_after n (c + j) l b m o.2 y)))
no_overlap n at (loan c j ∷ l) o a k b m (inr x) (inl y) =
    inr (inr (omega (arith, ordered_next n (c + j) l o.2, lent_after n (c + j) l a k o.2 x)))
no_overlap n at (loan c j ∷ l) o a k b m (inr x) (inr y) = no_overlap n (c + j) l o.2 a k b m x y

-- there is one loan at a page at most
pub lent_one_lem : (n at : ℕ) (l : List Loan) → Ordered n at l → (p k m : ℕ) → Lent l p k → Lent l p m → k ≡ m
lent_one_lem n at l o p k m x y =
    elim (no_overlap n at l o p k p m x y) [
      | inl e ↦ e.1
      | inr e ↦ elim e [ inl h ↦ absurd (omega (arith, lent_some n at l p k o x)) | inr h ↦ absurd (omega (arith, lent_some n at l p m o y)) ]
    ]

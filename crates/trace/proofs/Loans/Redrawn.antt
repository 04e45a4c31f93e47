-- A region of pages, its map and its loans: the map that is drawn from loans stands as such maps do, has all pages and says these loans; and
-- every such map is drawn from the loans that it says. Assumes nothing.
use mathlib.Core.Path.{◌≡◌, refl, ap, sym, ◌∙◌}
use mathlib.Core.Bool.{Bool, true, false}
use mathlib.Core.List.{List, [], ◌∷◌}
use Prim.Native.Nat.{ℕ, zero, suc, ◌+◌, ◌-◌, ◌≤◌}
use native.Mathlib.Nat.{add-zero}
use native.Mathlib.Omega.{arith}
use Rattle.manager.specs.Map.{Segment, free, held, free_sizes, total}
use Rattle.manager.specs.Paged.{free+}
use Rattle.manager.proofs.Laws.Apart.{Well, well_sized}
use Rattle.manager.proofs.Laws.Paged.{free_join, total_free, well_free, free_front}
use Rattle.trace.specs.Loans.{Loan, loan, Ordered}
use Rattle.trace.specs.Reading.{loans_of}
use Rattle.trace.specs.Pages.{runs, size+, run+, drawn, up_to}
use Rattle.trace.proofs.Loans.Drawn.{onward, drawn_next, ordered_next}
use Rattle.trace.proofs.Loans.Says.{ordered_says}

-- ---- from loans to the map

pub well : (n at : ℕ) (l : List Loan) → Ordered n at l → Well true (drawn n at l)
unfolding Ordered
well n at [] o = rw (drawn_next n at []) (well_free (n - at) [] tt)
well n at (loan a k ∷ l) o =
    rw (drawn_next n at (loan a k ∷ l)) (well_free (a - at) (held k ∷ drawn n (a + k) l) (omega arith, refl, well n (a + k) l o.2))

pub total_drawn : (n at : ℕ) (l : List Loan) → Ordered n at l → at + total (drawn n at l) ≡ n
unfolding Ordered total
total_drawn n at [] o = rw (drawn_next n at []) (omega (arith, total_free (n - at) []))
total_drawn n at (loan a k ∷ l) o =
    rw (drawn_next n at (loan a k ∷ l)) (omega (arith, total_free (a - at) (held k ∷ drawn n (a + k) l), total_drawn n (a + k) l o.2))

-- IT SAYS THE LOANS
run_says : (at g : ℕ) (s : List Segment) → loans_of at (run+ g s) ≡ loans_of (at + g) s
unfolding loans_of
run_says at zero s = rw (add-zero at)
run_says at (suc g) s = refl

pub drawn_says : (n at : ℕ) (l : List Loan) → Ordered n at l → loans_of at (drawn n at l) ≡ l
unfolding drawn loans_of Ordered
drawn_says n at [] o = run_says at (n - at) []
drawn_says n at (loan a k ∷ l) o =
    let e : at + (a - at) ≡ a = omega arith in
    run_says at (a - at) (held k ∷ drawn n (a + k) l) ∙ rw (e, drawn_says n (a + k) l o.2)

-- its free segments are the runs of unheld pages
free_run : (g : ℕ) (s : List Segment) → free_sizes (run+ g s) ≡ size+ g (free_sizes s)
unfolding free_sizes
free_run zero s = refl
free_run (suc g) s = refl

pub free_runs : (n at : ℕ) (l : List Loan) → free_sizes (drawn n at l) ≡ runs n at l
unfolding drawn free_sizes runs
free_runs n at [] = free_run (n - at) []
free_runs n at (loan a k ∷ l) = free_run (a - at) (held k ∷ drawn n (a + k) l) ∙ ap (size+ (a - at)) (free_runs n (a + k) l)

-- the map of no loans
pub drawn_new : (c at : ℕ) → drawn (at + c) at [] ≡ free+ c []
drawn_new c at = let e : at + c - at ≡ c = omega arith in rw (drawn_next (at + c) at [], e)

pub ordered_new : (c at : ℕ) → Ordered (at + c) at []
unfolding Ordered
ordered_new c at = omega arith

-- ---- from the map to its loans

-- they are in order
pub ordered_of : (n at : ℕ) (before : Bool) (s : List Segment) → Well before s → at + total s ≡ n → Ordered n at (loans_of at s)
ordered_of n at before s w e = rw e at (ordered_says at s (well_sized before s w))

-- a map from an earlier page on
drawn_back : (n at g : ℕ) (l : List Loan) → Ordered n (at + g) l → free+ g (drawn n (at + g) l) ≡ drawn n at l
drawn_back n at g l o =
    let le : at + g ≤ up_to n l = ordered_next n (at + g) l o in
    let same : g + (up_to n l - (at + g)) ≡ up_to n l - at = omega arith in
    ap (free+ g) (drawn_next n (at + g) l) ∙ free_join g (up_to n l - (at + g)) (onward n l) ∙ rw (same, drawn_next n at l)

-- AND IT IS DRAWN FROM THEM
pub drawn_of : (n at : ℕ) (before : Bool) (s : List Segment) → Well before s → at + total s ≡ n → s ≡ drawn n at (loans_of at s)
unfolding loans_of total drawn free+
drawn_of n at before [] w e = let z : n - at ≡ 0 = omega arith in rw z
drawn_of n at before (free k ∷ s) w e =
    let f : at + k + total s ≡ n = omega arith in
    sym (free_front k s w.2 w.0) ∙ ap (free+ k) (drawn_of n (at + k) false s w.2 f)
    ∙ drawn_back n at k (loans_of (at + k) s) (ordered_of n (at + k) false s w.2 f)
drawn_of n at before (held k ∷ s) w e =
    let z : at - at ≡ 0 = omega arith in
    let f : at + k + total s ≡ n = omega arith in
    rw (z, ← (drawn_of n (at + k) true s w.2 f))

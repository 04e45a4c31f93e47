-- A get on a drawn map: where it is placed, and the map that it leaves, are read off the loans. By induction over the loans: the free
-- pages before the first one serve, from the first page on the alignment on, or what is behind it does. Assumes nothing.
use Rattle.std.specs.Prelude.{Option, None, Some}
use mathlib.Core.Path.{◌≡◌, refl, sym, ap, ◌∙◌}
use mathlib.Core.Bool.{Bool, false, cond}
use mathlib.Core.List.{List, [], ◌∷◌}
use mathlib.Core.Logic.{inl, inr}
use Prim.Native.Nat.{ℕ, zero, suc, ◌+◌, ◌-◌, ◌≤◌, ◌<◌, max}
use native.Mathlib.Omega.{arith}
use native.Mathlib.Nat.{add-zero}
use lib.Dec.{leb}
use borrow.Author.Tests.{le-leb, lt-leb}
use Rattle.arith.specs.Round.{align_up, OnEvery}
use Rattle.arith.proofs.Laws.Round.{align_ge, align_on, align_least}
use Rattle.manager.specs.Map.{Segment, held}
use Rattle.manager.specs.Paged.{free+, room_from, place_from}
use Rattle.manager.proofs.Laws.Paged.{room_in, room_out, first_fit}
use Rattle.manager.specs.declared.Need.{Need}
use Rattle.trace.specs.Loans.{Loan, loan, enter, Held, Ordered, Span, behind, Run}
use Rattle.trace.specs.Pages.{drawn, lowest_run, up_to}
use Rattle.trace.proofs.Loans.Tests.{by_leb}
use Rattle.trace.proofs.Loans.Drawn.{onward, drawn_next, ordered_next, ordered_end, ordered_from, held_after}

-- what a get of w has to come to, from page `at` on: the lowest run on the alignment, lent, or nothing where there is none
pub data Got (r : Span) (at : ℕ) (l : List Loan) (w : Need) : Option ℕ → List Segment → Type 0 where
  gave : {s : List Segment} (p : ℕ) → s ≡ drawn (behind r) at (enter p w.pages l) → Ordered (behind r) at (enter p w.pages l) → at ≤ p
      → Run r l w.pages p → OnEvery w.every p → ((q : ℕ) → at ≤ q → Run r l w.pages q → OnEvery w.every q → p ≤ q) → Got r at l w (Some p) s
  lacks : {s : List Segment} → s ≡ drawn (behind r) at l → ((q : ℕ) → at ≤ q → OnEvery w.every q → ¬ Run r l w.pages q) → Got r at l w None s

-- a gap of no page has no room
no_room : (every at k : ℕ) → 0 < k → leb k (room_from every at 0) ≡ false
no_room zero at k h = lt-leb k 0 h
no_room (suc every) at k h = lt-leb k (room_from (suc every) at 0) (omega (arith, align_ge (suc every) at))

-- past the free pages in front
place_gap : (n : ℕ) (w : Need) (at g : ℕ) (l : List Loan) → 0 < w.pages
    → place_from w at (free+ g (onward n l)) ≡ cond (leb w.pages (room_from w.every at g)) (Some (align_up w.every at)) (place_from w (at + g) (onward n l))
unfolding free+ place_from
place_gap n w at zero l h = rw (add-zero, no_room w.every at w.pages h)
place_gap n w at (suc g) [] h = refl
place_gap n w at (suc g) (loan a m ∷ l) h = refl

-- a gap of g pages that serves, and the map behind it
abbrev filled : Need → ℕ → ℕ → List Segment → List Segment
filled w at g s = free+ (align_up w.every at - at) (held w.pages ∷ free+ (at + g - (align_up w.every at + w.pages)) s)

take_gap : (n : ℕ) (w : Need) (at g : ℕ) (l : List Loan) → 0 < w.pages
    → first_fit w at (free+ g (onward n l)) ≡ cond (leb w.pages (room_from w.every at g)) (filled w at g (onward n l)) (free+ g (first_fit w (at + g) (onward n l)))
unfolding free+ first_fit
take_gap n w at zero l h = rw (no_room w.every at w.pages h, add-zero)
take_gap n w at (suc g) [] h = refl
take_gap n w at (suc g) (loan a m ∷ l) h = refl

pub enter_first : (n at k : ℕ) (l : List Loan) → at ≤ up_to n l → enter at k l ≡ loan at k ∷ l
unfolding enter
enter_first n at k [] h = refl
enter_first n at k (loan a m ∷ l) h = rw (le-leb at a h)

pub enter_behind : (a m p k : ℕ) (l : List Loan) → a < p → enter p k (loan a m ∷ l) ≡ loan a m ∷ enter p k l
unfolding enter
enter_behind a m p k l h = rw (lt-leb p a h)

-- the free pages before the first loan serve
first : (r : Span) (at : ℕ) (w : Need) (l : List Loan) → r.first ≤ at → Ordered (behind r) at l → 0 < w.pages
    → w.pages ≤ room_from w.every at (up_to (behind r) l - at)
    → Got r at l w (Some (align_up w.every at)) (filled w at (up_to (behind r) l - at) (onward (behind r) l))
unfolding Ordered
first r at w l f o z h =
    let n = behind r in
    let k = w.pages in
    let p = align_up w.every at in
    let b : at ≤ p = align_ge w.every at in
    let u : p + k ≤ up_to n l = omega (arith, ordered_next n at l o, room_in w.every at (up_to n l - at) k z h) in
    let here : enter p k l ≡ loan p k ∷ l = enter_first n p k l (omega arith) in
    let same : at + (up_to n l - at) - (p + k) ≡ up_to n l - (p + k) = omega (arith, ordered_next n at l o) in
    let is : filled w at (up_to n l - at) (onward n l) ≡ drawn n at (enter p k l) = rw (here, drawn_next n at (loan p k ∷ l), drawn_next n (p + k) l, same) in
    gave p is (rw here (b, z, ordered_from n at (p + k) l o u)) b
    (record { some = z; from = omega arith; upto = omega (arith, ordered_end n at l o); unheld = λ q c v x. omega (arith, held_after n at l q o x) })
    (align_on w.every at) (λ q c v e. align_least w.every at q c e)

-- a run on the alignment, where the free pages before the first loan have no room for it, lies behind that loan
run_from : (r : Span) (at a m : ℕ) (l : List Loan) (w : Need) (q : ℕ) → 0 < m → at ≤ a → room_from w.every at (a - at) < w.pages → at ≤ q
    → Run r (loan a m ∷ l) w.pages q → OnEvery w.every q → a + m ≤ q
unfolding Held
run_from r at a m l w q z o h b u e =
    let v : a < q + w.pages = omega (arith, room_out w.every at (a - at) w.pages h, align_least w.every at q b e) in
    by_leb (a + m) q (λ (t : Bool). a + m ≤ q) (λ y. y)
    (λ y. absurd (u.unheld (max q a) (omega (arith, u.some)) (omega (arith, u.some)) (inl (omega (arith, u.some)))))

run_behind : (r : Span) (a m : ℕ) (l : List Loan) (k q : ℕ) → Run r (loan a m ∷ l) k q → Run r l k q
unfolding Held
run_behind r a m l k q u = record { some = u.some; from = u.from; upto = u.upto; unheld = λ i b e x. u.unheld i b e (inr x) }

-- they do not: what the rest of the map comes to
later : (r : Span) (at a m : ℕ) (l : List Loan) (w : Need) {g : Option ℕ} {s : List Segment} → Ordered (behind r) at (loan a m ∷ l)
    → room_from w.every at (a - at) < w.pages → Got r (a + m) l w g s → Got r at (loan a m ∷ l) w g (free+ (a - at) (held m ∷ s))
unfolding Ordered Held
later r at a m l w o h (gave {s} p e i b run on low) =
    let n = behind r in
    let k = w.pages in
    let there : enter p k (loan a m ∷ l) ≡ loan a m ∷ enter p k l = enter_behind a m p k l (omega arith) in
    let is : free+ (a - at) (held m ∷ s) ≡ drawn n at (enter p k (loan a m ∷ l)) = rw (there, drawn_next n at (loan a m ∷ enter p k l), e) in
    gave p is (rw there (o.0, o.1, i)) (omega arith)
    (record { some = run.some; from = run.from; upto = run.upto; unheld = λ q c u x. elim x [ inl y ↦ omega arith | inr y ↦ run.unheld q c u y ] })
    on (λ q b u v. low q (run_from r at a m l w q o.1 o.0 h b u v) (run_behind r a m l k q u) v)
later r at a m l w o h (lacks e no_run) =
    lacks (ap (λ (t : List Segment). free+ (a - at) (held m ∷ t)) e ∙ sym (drawn_next (behind r) at (loan a m ∷ l)))
    (λ q b v u. no_run q (run_from r at a m l w q o.1 o.0 h b u v) v (run_behind r a m l w.pages q u))

-- A GET
pub got_from : (r : Span) (w : Need) (at : ℕ) (l : List Loan) → r.first ≤ at → Ordered (behind r) at l → 0 < w.pages
    → Got r at l w (place_from w at (drawn (behind r) at l)) (first_fit w at (drawn (behind r) at l))
unfolding Ordered place_from first_fit
got_from r w at [] f o z =
    let n = behind r in
    rw (drawn_next n at [], place_gap n w at (n - at) [] z, take_gap n w at (n - at) [] z)
    (by_leb w.pages (room_from w.every at (n - at))
    (λ (t : Bool). Got r at [] w (cond t (Some (align_up w.every at)) None) (cond t (filled w at (n - at) []) (free+ (n - at) [])))
    (first r at w [] f o z)
    (λ h. lacks (sym (drawn_next n at [])) (λ q b v u. omega (arith, u.upto, room_out w.every at (n - at) w.pages h, align_least w.every at q b v))))
got_from r w at (loan a m ∷ l) f o z =
    let n = behind r in
    let there : at + (a - at) ≡ a = omega arith in
    rw (drawn_next n at (loan a m ∷ l), place_gap n w at (a - at) (loan a m ∷ l) z, take_gap n w at (a - at) (loan a m ∷ l) z)
    (by_leb w.pages (room_from w.every at (a - at))
    (λ (t : Bool). Got r at (loan a m ∷ l) w (cond t (Some (align_up w.every at)) (place_from w (at + (a - at) + m) (drawn n (a + m) l)))
    (cond t (filled w at (a - at) (held m ∷ drawn n (a + m) l)) (free+ (a - at) (held m ∷ first_fit w (at + (a - at) + m) (drawn n (a + m) l)))))
    (first r at w (loan a m ∷ l) f o z)
    (λ h. rw there (later r at a m l w o h (got_from r w (a + m) l (omega arith) o.2 z))))

-- THE PLACE IS THE LOWEST RUN BY THE LOANS
pub lowest_from : (n : ℕ) (w : Need) (at : ℕ) (l : List Loan) → 0 < w.pages → Ordered n at l → place_from w at (drawn n at l) ≡ lowest_run n w at l
unfolding place_from lowest_run Ordered
lowest_from n w at [] z o = ap (place_from w at) (drawn_next n at []) ∙ place_gap n w at (n - at) [] z
lowest_from n w at (loan a j ∷ l) z o =
    let there : at + (a - at) ≡ a = omega arith in
    ap (place_from w at) (drawn_next n at (loan a j ∷ l)) ∙ place_gap n w at (a - at) (loan a j ∷ l) z
    ∙ rw (there, lowest_from n w (a + j) l z o.2)

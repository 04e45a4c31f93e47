-- The claims of every reading and of every list of readings, proved. A gauge from a fresh one keeps two fills: 0 is one, an unrefused
-- reading makes two new ones, and a refused reading leaves both as they were. Assumes nothing.
use Prim.Native.Nat.{ℕ, ◌+◌, ◌*◌, ◌^◌, ◌≤◌, ◌<◌}
use mathlib.Core.Path.{◌≡◌, refl, sym, ap, ◌∙◌, subst}
use mathlib.Core.Logic.{◌⊎◌, inl, inr}
use mathlib.Core.Bool.{Bool, true, false, cond, not, ◌&&◌, ◌||◌}
use mathlib.Core.List.{List, [], ◌∷◌}
use native.Mathlib.Omega.{arith}
use native.Mathlib.Nat.{le_refl, le_of_lt}
use borrow.Author.Tests.{ne_eqb, le-ltb}
use lib.Dec.{T, eqb, ltb}
use lib.Ieee.{Float, nan, inf, fin, binary64, up, down, round, le, fits}
use lib.Ieee.Fits.{and_i}
use Rattle.manager.specs.Map.{sum_of}
use Rattle.manager.specs.Record.{region_of}
use Rattle.manager.specs.Region.{dead, pages_of, helds}
use Rattle.manager.specs.Regions.{region_information}
use Rattle.manager.specs.Sound.{sound}
use Rattle.manager.specs.Status.{number_of}
use Rattle.manager.specs.declared.Information.{Information}
use Rattle.manager.specs.declared.Manager.{Manager}
use Rattle.manager.specs.declared.Status.TheVariants.{Successful, InvalidNumber}
use Rattle.gauge.specs.Gauge.{fresh, fill_of, smoothed_by, is_fill, wrong_limits, wrong, moved, reading, reading_of}
use Rattle.gauge.specs.Readings.{Asked, answer, after, wrong_asked, on_the_way, Claims}
use Rattle.gauge.specs.declared.Alarm.{Alarm}
use Rattle.gauge.specs.declared.Gauge.{Gauge}
use Rattle.gauge.specs.declared.Reading.{Reading}
use Rattle.gauge.proofs.Laws.Rounding.{le_or_lt, le_of_order}
use Rattle.gauge.proofs.Laws.Smoothing.{Fill, Between, smooth, smooth_between, fill_fits}
use Rattle.gauge.proofs.Laws.Fills.{zero_fill, fill_of_fill, smoothed_by_is, smoothed_by_fill, fill_passes, unrefused, Unrefused, answered}
use Rattle.gauge.proofs.Laws.Ends.{fill_rounded}
use Rattle.gauge.proofs.Laws.Totals.{both_totals, some_bytes, few_bytes, by_pages}

-- ---- any reading
any_answer : (g : Gauge) (a : Alarm) (held total : ℕ) → (reading g a held total).status ≡ cond (wrong g a held total) InvalidNumber Successful
unfolding reading
any_answer g a held total = go (wrong g a held total)
  where
    go : (b : Bool) → (answered g a held total b).status ≡ cond b InvalidNumber Successful
    go true = refl
    go false = refl

no_refusal : Successful ≡ InvalidNumber → ⊥
no_refusal e = let z : ◌≡◌ {A = ℕ} (number_of Successful) (number_of InvalidNumber) = ap number_of e in omega arith

any_refusal : (g : Gauge) (a : Alarm) (held total : ℕ) → (reading g a held total).status ≡ InvalidNumber
    → ((reading g a held total).gauge ≡ g) × ((reading g a held total).sounds ≡ false)
unfolding reading
any_refusal g a held total e = go (wrong g a held total) e
  where
    go : (b : Bool) → (answered g a held total b).status ≡ InvalidNumber → ((answered g a held total b).gauge ≡ g) × ((answered g a held total b).sounds ≡ false)
    go true e = (refl, refl)
    go false e = absurd (no_refusal e)

-- ---- what is kept
pub record Kept (g : Gauge) : Type 0 where
  pub last : Fill binary64 g.last
  pub smoothed : Fill binary64 g.smoothed

pub fresh_kept : Kept fresh
fresh_kept = record { last = zero_fill; smoothed = zero_fill }

moved_kept : (g : Gauge) (r : Asked) → Kept g → wrong g r.alarm r.held r.total ≡ false → Kept (moved g (fill_of r.held r.total))
moved_kept g r k p =
    let u : Unrefused g r.held r.total = unrefused g r.alarm r.held r.total p in
    let x : Fill binary64 (fill_of r.held r.total) = fill_of_fill r.held r.total u.some u.within r.counts in
    let s : T (fits binary64 g.smoothed) = fill_fits binary64 g.smoothed k.smoothed in
    record { last = x; smoothed = smoothed_by_fill g.smoothed (fill_of r.held r.total) s u.smoothed x }

abbrev at : (g : Gauge) (r : Asked) (b : Bool) → Reading
at g r b = answered g r.alarm r.held r.total b

pub answer_kept : (g : Gauge) (r : Asked) → Kept g → Kept (answer g r).gauge
unfolding reading
answer_kept g r k = go (wrong g r.alarm r.held r.total) refl
  where
    go : (b : Bool) → wrong g r.alarm r.held r.total ≡ b → Kept (at g r b).gauge
    go true p = k
    go false p = moved_kept g r k p

after_kept : (l : List Asked) (g : Gauge) → Kept g → Kept (after g l)
unfolding after
after_kept [] g k = k
after_kept (r ∷ rs) g k = after_kept rs (answer g r).gauge (answer_kept g r k)

-- ---- a refusal is for what the reading is handed
both_pass : (l s a b : Bool) → T l → T s → (a || (not l || (not s || b))) ≡ (a || b)
both_pass true true a b p q = refl
both_pass false s a b p q = elim p [ ]
both_pass true false a b p q = elim q [ ]

wrong_is : (g : Gauge) (r : Asked) → Kept g → wrong g r.alarm r.held r.total ≡ wrong_asked r
unfolding wrong
wrong_is g r k =
    both_pass (is_fill g.last) (is_fill g.smoothed) (wrong_limits r.alarm) (eqb r.total 0 || ltb r.total r.held)
    (fill_passes g.last k.last) (fill_passes g.smoothed k.smoothed)

answer_status : (g : Gauge) (r : Asked) → Kept g → (answer g r).status ≡ cond (wrong_asked r) InvalidNumber Successful
answer_status g r k = any_answer g r.alarm r.held r.total ∙ ap (λ (b : Bool). cond b InvalidNumber Successful) (wrong_is g r k)

-- ---- the way of the smoothed fill
or_l : (a b : Bool) → T a → T (a || b)
or_l true b t = tt
or_l false b t = absurd t

or_r : (a b : Bool) → T b → T (a || b)
or_r true b t = tt
or_r false b t = t

rising : (s x y : Float) → T (le s y) → T (le y x) → T (on_the_way s x y)
rising s x y h k = or_l (le s y && le y x) (le x y && le y s) (and_i (le s y) (le y x) h k)

falling : (s x y : Float) → T (le x y) → T (le y s) → T (on_the_way s x y)
falling s x y h k = or_r (le s y && le y x) (le x y && le y s) (and_i (le x y) (le y s) h k)

on_the_way_lem : (s x : Float) → Fill binary64 s → Fill binary64 x → T (on_the_way s x (smoothed_by s x))
on_the_way_lem s x p q = subst (λ (y : Float). T (on_the_way s x y)) (sym (smoothed_by_is s x)) (go (smooth_between binary64 s x p q))
  where
    go : Between binary64 s x (smooth binary64 s x) ⊎ Between binary64 x s (smooth binary64 s x) → T (on_the_way s x (smooth binary64 s x))
    go (inl b) = rising s x (smooth binary64 s x) b.above b.below
    go (inr b) = falling s x (smooth binary64 s x) b.above b.below

fill_le_itself : (x : Float) → Fill binary64 x → T (le x x)
fill_le_itself (fin false m e) h = le_of_order m e m e (le_refl (m * up e * down e))
fill_le_itself nan h = elim h [ ]
fill_le_itself (inf _) h = elim h [ ]
fill_le_itself (fin true m e) h = elim h [ ]

stays_put : (s x : Float) → Fill binary64 s → Fill binary64 x → T (on_the_way s x s)
stays_put (fin false m e) (fin false n d) p q =
    let s = fin false m e in
    let x = fin false n d in
    elim (le_or_lt (m * up e * down d) (n * up d * down e)) [
      | inl h ↦ rising s x s (fill_le_itself s p) (le_of_order m e n d h)
      | inr h ↦ falling s x s (le_of_order n d m e (le_of_lt h)) (fill_le_itself s p)
    ]
stays_put nan _ p q = elim p [ ]
stays_put (inf _) _ p q = elim p [ ]
stays_put (fin false m e) nan p q = elim q [ ]
stays_put (fin false m e) (inf _) p q = elim q [ ]
stays_put (fin false m e) (fin true n d) p q = elim q [ ]
stays_put (fin true m e) _ p q = elim p [ ]

answer_way : (g : Gauge) (r : Asked) → Kept g → T (on_the_way g.smoothed (answer g r).gauge.last (answer g r).gauge.smoothed)
unfolding reading
answer_way g r k = go (wrong g r.alarm r.held r.total) refl
  where
    go : (b : Bool) → wrong g r.alarm r.held r.total ≡ b → T (on_the_way g.smoothed (at g r b).gauge.last (at g r b).gauge.smoothed)
    go true p = stays_put g.smoothed g.last k.smoothed k.last
    go false p = on_the_way_lem g.smoothed (fill_of r.held r.total) k.smoothed (moved_kept g r k p).last

-- ---- by the information of a live region in a sound record
or_none : (b : Bool) → (b || false) ≡ b
or_none true = refl
or_none false = refl

right_fill : (g : Gauge) (r : Asked) → wrong g r.alarm r.held r.total ≡ false → (answer g r).gauge.last ≡ fill_of r.held r.total
unfolding reading
right_fill g r e = rw e

module _ (m : List ℕ) (d : Manager) (id : ℕ) (ok : sound m d ≡ true) (live : dead (region_of d id) ≡ false) (g : Gauge) (k : Kept g) (a : Alarm) where
  abbrev i : Information
  i = (region_information m d id).information

  total_is : i.free_total + i.held_total ≡ pages_of (region_of d id) * (region_of d id).page
  total_is = both_totals m d id ok live

  some : 0 < i.free_total + i.held_total
  some = subst (λ (n : ℕ). 0 < n) (sym total_is) (some_bytes m d id ok live)

  few : i.free_total + i.held_total ≤ 2 ^ 53
  few = subst (λ (n : ℕ). n ≤ 2 ^ 53) (sym total_is) (few_bytes m d id ok live)

  abbrev asked : Asked
  asked = record { alarm = a; held = i.held_total; total = i.free_total + i.held_total; counts = few }

  only_limits : wrong_asked asked ≡ wrong_limits a
  only_limits = rw (ne_eqb (i.free_total + i.held_total) 0 (λ e. omega (arith, some)), le-ltb (i.free_total + i.held_total) i.held_total (omega arith)) (or_none (wrong_limits a))

  region_status : (reading_of g a i).status ≡ cond (wrong_limits a) InvalidNumber Successful
  region_status = subst (λ (b : Bool). (reading_of g a i).status ≡ cond b InvalidNumber Successful) only_limits (answer_status g asked k)

  region_fill : wrong_limits a ≡ false → (reading_of g a i).gauge.last ≡ round binary64 false (sum_of (helds m (region_of d id))) (pages_of (region_of d id))
  region_fill e =
      right_fill g asked (wrong_is g asked k ∙ only_limits ∙ e)
      ∙ fill_rounded i.held_total (i.free_total + i.held_total) some (omega arith) few
      ∙ by_pages m d id ok live

-- ---- the claims
both_fills : (g : Gauge) → Kept g → T (is_fill g.last && is_fill g.smoothed)
both_fills g k = and_i (is_fill g.last) (is_fill g.smoothed) (fill_passes g.last k.last) (fill_passes g.smoothed k.smoothed)

pub kept : (l : List Asked) → Kept (after fresh l)
kept l = after_kept l fresh fresh_kept

pub claims : Claims
claims = record {
  answers = any_answer;
  unchanged = any_refusal;
  rounded = fill_rounded;
  fills = λ (l : List Asked). both_fills (after fresh l) (kept l);
  refuses = λ (l : List Asked) (r : Asked). answer_status (after fresh l) r (kept l);
  towards = λ (l : List Asked) (r : Asked). answer_way (after fresh l) r (kept l);
  region = λ m d id ok live l a. region_status m d id ok live (after fresh l) (kept l) a;
  pages = λ m d id ok live l a. region_fill m d id ok live (after fresh l) (kept l) a;
}

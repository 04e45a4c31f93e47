-- The powers of two next to a number, and the page count by halves. Assumes nothing.
use Prim.Native.Nat.{ℕ, zero, suc, ◌*◌, ◌/◌, ◌^◌, ◌≤◌, ◌<◌, max}
use Rattle.std.specs.Int.{IsPowerOfTwo}
use mathlib.Core.Path.{◌≡◌, refl, ap, ◌∙◌}
use mathlib.Core.Logic.{inl, inr, ⊎_elim}
use native.Mathlib.Omega.{arith}
use native.Mathlib.Nat.{eq-zero-or-pos}
use mir.Syntax.{w32}
use mir.Val.{Fits}
use mir.Facts.{Fits-le}
use Rattle.arith.specs.Power.{power_up, is_power}
use Rattle.arith.specs.Layout.{largest, any_number, page_count, layout_with, layout_of}
use Rattle.arith.specs.declared.Layout.{Layout}
use Rattle.arith.proofs.Laws.Layout.{largest_under, largest_most, largest_passes, count_under, count_fits, count_allowed, count_zero, count_over, count_most, fits_less}
use Rattle.arith.proofs.Laws.Power.{some_power, double, is_power_lem, least_is, largest_is}

-- the next power of two of a number is the least at or above it
pub next_is_up : (k b : ℕ) → IsPowerOfTwo b → k ≤ b → b / 2 < max 1 k → b ≡ power_up k
next_is_up k b (zero, e) above under = least_is k b (rw (e, is_power_lem 0)) above (inl e)
next_is_up k b (suc j, e) above under =
    least_is k b (rw (e, is_power_lem (suc j))) above (inr (omega (arith, e, double j, some_power j)))

-- 0 has none at or below it
pub below_none : (n : ℕ) → n ≡ 0 → 0 ≡ largest n is_power
below_none n e = omega (arith, largest_under n is_power)

-- and two to the logarithm of any other number is the largest there
pub log_is_down : (n j : ℕ) → 2 ^ j ≤ n → n < 2 * 2 ^ j → 2 ^ j ≡ largest n is_power
log_is_down n j le lt = largest_is n (2 ^ j) (is_power_lem j) le (omega arith)

-- it fits where n does
pub below_fits : (n b : ℕ) → Fits w32 n → b ≡ largest n is_power → Fits w32 b
below_fits n b f e = Fits-le (let u = largest_under n is_power in omega arith) f

-- THE PAGE COUNT BY HALVES is the largest power of two at or below the count of pages: fewer pages than fit, fit
module _ (start length page : ℕ) where
  abbrev all : ℕ
  all = page_count any_number start length page

  abbrev some : ℕ
  some = page_count is_power start length page

  -- it is among those that fit
  some_under : 0 < page → some ≤ all
  some_under hp =
      ⊎_elim (λ (z : some ≡ 0). omega arith)
      (λ (h : 0 < some). count_over any_number start length page some (count_under is_power start length page) refl (count_fits is_power start length page h))
      (eq-zero-or-pos some)

  -- and the largest power among them fits
  power_fits : 0 < page → (b : ℕ) → b ≡ largest all is_power → 0 < b → b ≤ some
  power_fits hp b e h =
      let u = largest_under all is_power in
      count_most start length page hp is_power b (rw e (largest_passes all is_power (omega arith)))
      (fits_less start length page hp all b (omega arith) (count_fits any_number start length page (omega arith)))

  pub count_halves : (b : ℕ) → b ≡ largest all is_power → b ≡ some
  count_halves b e =
      ⊎_elim (λ (z : page ≡ 0). let u = largest_under all is_power in omega (arith, count_zero any_number start length page z, count_zero is_power start length page z))
      (λ (hp : 0 < page). ⊎_elim
      (λ (z : some ≡ 0). ⊎_elim (λ (y : b ≡ 0). omega arith) (λ (h : 0 < b). absurd (omega (arith, power_fits hp b e h))) (eq-zero-or-pos b))
      (λ (h : 0 < some).
      let m = largest_most all is_power some (some_under hp) (count_allowed is_power start length page h) in
      omega (arith, power_fits hp b e (omega arith)))
      (eq-zero-or-pos some))
      (eq-zero-or-pos page)

  pub layout_halves : (l : Layout) → l ≡ layout_of any_number start length page → (b : ℕ) → b ≡ largest l.pages is_power
      → (k : Layout) → k ≡ layout_with start page b → k ≡ layout_of is_power start length page
  layout_halves l el b e k ek = ek ∙ ap (layout_with start page) (count_halves b (e ∙ ap (λ (x : Layout). largest x.pages is_power) el))

-- TICKET 2: the page count by one division and a correction of at most one. No more fit than the quotient, and one less always does:
-- rounding the map's start up costs at most 3 bytes and rounding the first page up less than a page, together less than the page and the
-- word that are left out. Assumes nothing.
use Prim.Native.Nat.{ℕ, zero, suc, ◌+◌, ◌-◌, ◌*◌, ◌≤◌, ◌<◌}
use mathlib.Core.Path.{◌≡◌, refl, sym, ◌∙◌, ap}
use mathlib.Core.Logic.{◌⊎◌, inl, inr, ⊎_elim}
use mathlib.Core.Bool.{true}
use native.Mathlib.Nat.{suc-mul, eq-or-lt_of_le, eq-zero-or-pos}
use native.Mathlib.Omega.{arith}
use Rattle.arith.specs.Layout.{map_start, first_page, fits, most_pages, page_count, any_number, layout_with, layout_of}
use Rattle.arith.specs.declared.Layout.{Layout}
use Rattle.arith.proofs.Laws.Round.{round_under, multiples_under}
use Rattle.arith.proofs.Laws.Layout.{fits_le, le_fits, map_lt, first_lt, most_zero, most_room, count_under, count_fits, count_over}

module _ (start length page : ℕ) where
  -- one less than the quotient fits
  less_fits : (n : ℕ) → suc n ≡ most_pages length page → fits start length page n ≡ true
  less_fits n e =
      ⊎_elim (λ (z : page ≡ 0). absurd (omega (arith, most_zero length page z)))
      (λ (h : 0 < page). le_fits start length page n
      (omega (arith, most_room length page (suc n) e, suc-mul n page, map_lt start, first_lt start page h n)))
      (eq-zero-or-pos page)

  under_next : (n : ℕ) → n ≡ most_pages length page → n ≤ page_count any_number start length page + 1
  under_next zero e = omega arith
  under_next (suc n) e = omega (arith, count_over any_number start length page n (omega arith) refl (less_fits n e))

  -- THE CORRECTION IS AT MOST ONE: the quotient is the page count, or one more
  pub correction : (most_pages length page ≡ page_count any_number start length page) ⊎ (most_pages length page ≡ page_count any_number start length page + 1)
  correction =
      ⊎_elim (λ (e : page_count any_number start length page ≡ most_pages length page). inl (sym e))
      (λ (l : page_count any_number start length page < most_pages length page). inr (omega (arith, under_next (most_pages length page) refl)))
      (eq-or-lt_of_le (count_under any_number start length page))

  module _ (n : ℕ) (e : n ≡ most_pages length page) where
    -- the quotient is right where it fits
    count_exact : first_page start page n * page + n * page ≤ start + length → n ≡ page_count any_number start length page
    count_exact h =
        omega (arith, count_under any_number start length page, count_over any_number start length page n (omega arith) refl (le_fits start length page n h))

    -- and one too large, but for 0, where it does not
    count_less : start + length < first_page start page n * page + n * page → n - 1 ≡ page_count any_number start length page
    count_less h =
        ⊎_elim
        (λ (z : most_pages length page ≡ page_count any_number start length page). ⊎_elim (λ (g : n ≡ 0). omega arith)
        (λ (g : 0 < n). let f = count_fits any_number start length page (omega arith) in
        absurd (omega (arith, h, fits_le start length page n (rw (e ∙ z) f))))
        (eq-zero-or-pos n))
        (λ (z : most_pages length page ≡ page_count any_number start length page + 1). omega arith)
        correction

    -- the same of layouts, by the layout of the quotient's pages
    module _ (l : Layout) (el : l ≡ layout_with start page n) where
      first_is : l.first ≡ first_page start page n
      first_is = ap (λ (k : Layout). k.first) el

      pub stop_under : l.first * page + n * page ≤ start + length + page + 3
      stop_under =
          omega (
            arith,
            most_room length page n e,
            round_under start 4,
            multiples_under (map_start start + 4 * n) page l.first first_is,
          )

      pub layout_exact : l.first * page + n * page ≤ start + length → l ≡ layout_of any_number start length page
      layout_exact h = el ∙ ap (layout_with start page) (count_exact (rw first_is at h))

      pub layout_none : n ≡ 0 → l ≡ layout_of any_number start length page
      layout_none z = el ∙ ap (layout_with start page) (omega (arith, count_under any_number start length page))

      pub layout_less : start + length < l.first * page + n * page → (k : Layout) → k ≡ layout_with start page (n - 1)
          → k ≡ layout_of any_number start length page
      layout_less h k ek = ek ∙ ap (layout_with start page) (count_less (rw first_is at h))

-- The page count is the largest number of pages that fits. It is searched from `most_pages` down, and no number above that fits, since
-- a page takes its size and a word of what lies from the area's start on. Assumes nothing.
use Prim.Native.Nat.{ℕ, zero, suc, ◌+◌, ◌*◌, ◌/◌, ◌≤◌, ◌<◌}
use mathlib.Core.Path.{◌≡◌, refl}
use mathlib.Core.Logic.{⊎_elim}
use mathlib.Core.Bool.{Bool, true, false, cond, ◌&&◌, true≢false}
use native.Mathlib.Nat.{le-div_iff_mul-le, div-mul-le_self, mul-add, mul-le-mul_right, eq-or-lt_of_le, eq-zero-or-pos}
use native.Mathlib.Omega.{arith}
use borrow.Author.Tests.{leb-true, le-leb, eq-eqb, ne_eqb}
use Rattle.arith.proofs.Laws.Round.{round_ge, round_lt, round_least}
use Rattle.arith.specs.Round.{pages_for}
use Rattle.arith.specs.Layout.{map_start, first_page, fits, largest, most_pages, page_count, layout_with}

-- both of two tests hold
pub both_true : (a b : Bool) → (a && b) ≡ true → (a ≡ true) × (b ≡ true)
both_true true b e = (refl, e)
both_true false b e = (e, cc)

-- one step of the search
pick_passes : (t : ℕ → Bool) (k r : ℕ) (b : Bool) → t k ≡ b → (0 < r → t r ≡ true) → 0 < cond b k r
    → t (cond b k r) ≡ true
pick_passes t k r true e h g = e
pick_passes t k r false e h g = h g

pick_under : (k r : ℕ) (b : Bool) → r ≤ k → cond b (suc k) r ≤ suc k
pick_under k r true h = omega arith
pick_under k r false h = omega arith

pick_most : (t : ℕ → Bool) (k r m : ℕ) (b : Bool) → t (suc k) ≡ b → (m ≤ k → m ≤ r) → m ≤ suc k → t m ≡ true
    → m ≤ cond b (suc k) r
pick_most t k r m true e h g p = g
pick_most t k r m false e h g p =
    ⊎_elim (λ (q : m ≡ suc k). let z : true ≡ false = cc in absurd (true≢false z))
    (λ (l : m < suc k). h (omega arith))
    (eq-or-lt_of_le g)

-- the largest passes, where it is not 0
pub largest_passes : (k : ℕ) (t : ℕ → Bool) → 0 < largest k t → t (largest k t) ≡ true
unfolding largest
largest_passes zero t h = absurd (omega arith)
largest_passes (suc k) t h = pick_passes t (suc k) (largest k t) (t (suc k)) refl (largest_passes k t) h

pub largest_under : (k : ℕ) (t : ℕ → Bool) → largest k t ≤ k
unfolding largest
largest_under zero t = omega arith
largest_under (suc k) t = pick_under k (largest k t) (t (suc k)) (largest_under k t)

-- none that passes is above it
pub largest_most : (k : ℕ) (t : ℕ → Bool) (m : ℕ) → m ≤ k → t m ≡ true → m ≤ largest k t
unfolding largest
largest_most zero t m h p = h
largest_most (suc k) t m h p = pick_most t k (largest k t) m (t (suc k)) refl (λ g. largest_most k t m g p) h p

module _ (start length page : ℕ) where
  -- the test as an order, and back
  pub fits_le : (n : ℕ) → fits start length page n ≡ true → first_page start page n * page + n * page ≤ start + length
  fits_le n e = leb-true (first_page start page n * page + n * page) (start + length) e

  pub le_fits : (n : ℕ) → first_page start page n * page + n * page ≤ start + length → fits start length page n ≡ true
  le_fits n h = le-leb (first_page start page n * page + n * page) (start + length) h

-- the map starts at or above the area's start, and within 3 bytes of it
pub map_ge : (start : ℕ) → start ≤ map_start start
map_ge start = round_ge start 4 (omega arith)

pub map_lt : (start : ℕ) → map_start start < start + 4
map_lt start = round_lt start 4 (omega arith)

-- the pages start at or above the map's end, and within a page of it
pub first_ge : (start page : ℕ) → 0 < page → (n : ℕ) → map_start start + 4 * n ≤ first_page start page n * page
first_ge start page hp n = round_ge (map_start start + 4 * n) page hp

pub first_lt : (start page : ℕ) → 0 < page → (n : ℕ) → first_page start page n * page < map_start start + 4 * n + page
first_lt start page hp n = round_lt (map_start start + 4 * n) page hp

-- the bound of the search, by the page size
pub most_zero : (length page : ℕ) → page ≡ 0 → most_pages length page ≡ 0
unfolding most_pages
most_zero length page e = rw (eq-eqb page 0 e)

pub most_is : (length page : ℕ) → 0 < page → most_pages length page ≡ length / (page + 4)
unfolding most_pages
most_is length page h = rw (ne_eqb page 0 (λ (e : page ≡ 0). omega arith))

-- what so many pages and their words take
pub most_room : (length page n : ℕ) → n ≡ most_pages length page → n * page + n * 4 ≤ length
most_room length page n e =
    ⊎_elim (λ (z : page ≡ 0). rw (e, most_zero length page z) (omega arith))
    (λ (h : 0 < page). rw (e, most_is length page h, ← mul-add (length / (page + 4)) page 4) (div-mul-le_self length (page + 4)))
    (eq-zero-or-pos page)

-- of the numbers that a kind of region may have
module _ (allowed : ℕ → Bool) (start length page : ℕ) where
  -- the count is a number that was searched, and where it is not 0 it fits, and is one that the kind may have
  pub count_under : page_count allowed start length page ≤ most_pages length page
  unfolding page_count
  count_under = largest_under (most_pages length page) (λ n. allowed n && fits start length page n)

  count_passes : 0 < page_count allowed start length page → (allowed (page_count allowed start length page) && fits start length page (page_count allowed start length page)) ≡ true
  unfolding page_count
  count_passes = largest_passes (most_pages length page) (λ n. allowed n && fits start length page n)

  pub count_allowed : 0 < page_count allowed start length page → allowed (page_count allowed start length page) ≡ true
  count_allowed h = (both_true (allowed (page_count allowed start length page)) _ (count_passes h)).0

  pub count_fits : 0 < page_count allowed start length page → fits start length page (page_count allowed start length page) ≡ true
  count_fits h = (both_true (allowed (page_count allowed start length page)) _ (count_passes h)).1

  pub count_zero : page ≡ 0 → page_count allowed start length page ≡ 0
  count_zero e = omega (arith, count_under, most_zero length page e)

  -- none that was searched, is allowed and fits is above it
  pub count_over : (n : ℕ) → n ≤ most_pages length page → allowed n ≡ true → fits start length page n ≡ true → n ≤ page_count allowed start length page
  unfolding page_count
  count_over n l a f = largest_most (most_pages length page) (λ n. allowed n && fits start length page n) n l (rw (a, f))

-- for a page size that is not 0
module _ (start length page : ℕ) (hp : 0 < page) where
  -- what fits has a word and a page each
  pub fits_room : (n : ℕ) → fits start length page n ≡ true → map_start start + n * (page + 4) ≤ start + length
  fits_room n e = rw (mul-add n page 4) (omega (arith, fits_le start length page n e, first_ge start page hp n))

  pub fits_most : (n : ℕ) → fits start length page n ≡ true → n ≤ most_pages length page
  fits_most n e =
      rw (most_is length page hp)
      ((le-div_iff_mul-le {k = page + 4} {x = n} {y = length} (omega arith)).1 (omega (arith, fits_room n e, map_ge start)))

  -- of all allowed numbers none that fits is above the count
  pub count_most : (allowed : ℕ → Bool) (n : ℕ) → allowed n ≡ true → fits start length page n ≡ true → n ≤ page_count allowed start length page
  count_most allowed n a e = count_over allowed start length page n (fits_most n e) a e

  -- fewer pages than fit, fit
  pub fits_less : (n k : ℕ) → k ≤ n → fits start length page n ≡ true → fits start length page k ≡ true
  fits_less n k l e =
      le_fits start length page k
      (omega (arith, fits_le start length page n e, mul-le-mul_right page l, round_least (map_start start + 4 * k) page (first_page start page n) hp (omega (arith, first_ge start page hp n))))

-- what the count's pages take: all within the area, the map before the pages, a word and a page each
module _ (allowed : ℕ → Bool) (start length page : ℕ) where
  pub count_map : 0 < page
      → page_count allowed start length page * 4 + map_start start ≤ first_page start page (page_count allowed start length page) * page
  count_map hp = omega (arith, first_ge start page hp (page_count allowed start length page))

  pub count_end : 0 < page → 0 < page_count allowed start length page
      → first_page start page (page_count allowed start length page) * page + page_count allowed start length page * page ≤ start + length
  count_end hp h = fits_le start length page (page_count allowed start length page) (count_fits allowed start length page h)

-- a layout by its parts
pub layout_is : (start page n map first : ℕ) → map ≡ map_start start → first ≡ pages_for (map + 4 * n) page
    → record { map = map / 4; pages = n; first = first } ≡ layout_with start page n
layout_is start page n map first em ef = rw (ef, em)

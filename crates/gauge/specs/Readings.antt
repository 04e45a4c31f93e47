-- WHAT IS CLAIMED of every reading of any gauge, and of every list of readings from a fresh one, refused ones included. Assumes nothing.
use Rattle.std.specs.Prelude.{ℕ, ◌^◌, ◌≤◌, ◌<◌, ◌≡◌, Bool, true, false, cond, ◌&&◌, ◌||◌, List, [], ◌∷◌, T, eqb, ltb, Float}
use Rattle.std.specs.Float.{binary64}
use Rattle.std.specs.Float.Ieee.{round, le}
use Rattle.manager.specs.Map.{sum_of}
use Rattle.manager.specs.Record.{region_of}
use Rattle.manager.specs.Region.{dead, pages_of, helds}
use Rattle.manager.specs.Regions.{region_information}
use Rattle.manager.specs.Sound.{sound}
use Rattle.manager.specs.declared.Manager.{Manager}
use Rattle.manager.specs.declared.Status.TheVariants.{Successful, InvalidNumber}
use Rattle.gauge.specs.Gauge.{fresh, fill_of, is_fill, wrong_limits, wrong, reading, reading_of}
use Rattle.gauge.specs.declared.Alarm.{Alarm}
use Rattle.gauge.specs.declared.Gauge.{Gauge}
use Rattle.gauge.specs.declared.Reading.{Reading}

-- what a reading is handed; a total is a number that a float of 64 bits counts, as each of 32 bits is, and the sum of two
pub record Asked : Type 0 where
  pub alarm : Alarm
  pub held : ℕ
  pub total : ℕ
  pub counts : total ≤ 2 ^ 53

abbrev pub answer : Gauge → Asked → Reading
answer g r = reading g r.alarm r.held r.total

-- the gauge after readings
unfoldable pub after : Gauge → List Asked → Gauge
after g [] = g
after g (r ∷ rs) = after (answer g r).gauge rs

-- what is wrong with a reading whatever the gauge
abbrev pub wrong_asked : Asked → Bool
wrong_asked r = wrong_limits r.alarm || (eqb r.total 0 || ltb r.total r.held)

-- y lies on the way from s to x, both ends included
abbrev pub on_the_way : Float → Float → Float → Bool
on_the_way s x y = (le s y && le y x) || (le x y && le y s)

pub record Claims : Type 0 where
  -- whatever gauge and numbers it is given, a reading is answered 0 or 10
  pub answers : (g : Gauge) (a : Alarm) (held total : ℕ) → (reading g a held total).status ≡ cond (wrong g a held total) InvalidNumber Successful
  -- and 10 leaves the gauge as it was, and the alarm silent
  pub unchanged : (g : Gauge) (a : Alarm) (held total : ℕ) → (reading g a held total).status ≡ InvalidNumber
      → ((reading g a held total).gauge ≡ g) × ((reading g a held total).sounds ≡ false)
  -- the fill is the fraction rounded once, and at both ends no other number than a division would give
  pub rounded : (held total : ℕ) → 0 < total → held ≤ total → total ≤ 2 ^ 53 → fill_of held total ≡ round binary64 false held total
  -- both kept fills are numbers from 0 to 1
  pub fills : (l : List Asked) → T (is_fill (after fresh l).last && is_fill (after fresh l).smoothed)
  -- so that a reading is refused exactly for what it is handed, and never for what is kept
  pub refuses : (l : List Asked) (r : Asked) → (answer (after fresh l) r).status ≡ cond (wrong_asked r) InvalidNumber Successful
  -- the smoothed fill goes towards the new fill, and never past it
  pub towards : (l : List Asked) (r : Asked) → T (on_the_way (after fresh l).smoothed (answer (after fresh l) r).gauge.last (answer (after fresh l) r).gauge.smoothed)
  -- by the information of a live region in a sound record, a reading is refused exactly for its limits
  pub region : (m : List ℕ) (d : Manager) (id : ℕ) → sound m d ≡ true → dead (region_of d id) ≡ false → (l : List Asked) (a : Alarm)
      → (reading_of (after fresh l) a (region_information m d id).information).status ≡ cond (wrong_limits a) InvalidNumber Successful
  -- and the fill is that of its pages, the held ones over all of them
  pub pages : (m : List ℕ) (d : Manager) (id : ℕ) → sound m d ≡ true → dead (region_of d id) ≡ false → (l : List Asked) (a : Alarm) → wrong_limits a ≡ false
      → (reading_of (after fresh l) a (region_information m d id).information).gauge.last
      ≡ round binary64 false (sum_of (helds m (region_of d id))) (pages_of (region_of d id))

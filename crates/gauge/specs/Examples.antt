-- Readings with what they answer, as one table about the definitions; the theorem that all of it holds is in proofs/. Floats are written by
-- their bits. Assumes nothing.
use Rattle.std.specs.Prelude.{ℕ, zero, suc, Bool, true, not, ◌&&◌, List, [], ◌∷◌, eqb, Float}
use Rattle.std.specs.Float.{binary64}
use Rattle.std.specs.Float.Ieee.{of_bits, to_bits}
use Rattle.manager.specs.Status.{number_of}
use Rattle.manager.specs.Regions.{information_of}
use Rattle.gauge.specs.Gauge.{fresh, reading, reading_of}
use Rattle.gauge.specs.declared.Alarm.{Alarm}
use Rattle.gauge.specs.declared.Alarm.TheVariants.{Above, Below, Outside}
use Rattle.gauge.specs.declared.Gauge.{Gauge}
use Rattle.gauge.specs.declared.Reading.{Reading}

-- what a reading is: 0 with a silent alarm, 0 with one that sounds, or 10
pub data Outcome : Type 0 where
  silent sounding refused : Outcome

-- a reading: the alarm, held and total bytes; then the bits of both fills after it
pub data Step : Type 0 where
  step : Alarm → ℕ → ℕ → Outcome → ℕ → ℕ → Step

-- A row: readings of a fresh gauge; so many that are alike, and the bits of the smoothed fill after them; readings of one that keeps fills
-- of these bits; and one reading of a fresh gauge by a free and a held total
pub data Row : Type 0 where
  start : List Step → Row
  alike : ℕ → ℕ → ℕ → ℕ → Row
  kept : ℕ → ℕ → List Step → Row
  totals : ℕ → ℕ → Outcome → ℕ → ℕ → Row

abbrev pub float : ℕ → Float
float bits = of_bits binary64 bits

-- some bits
abbrev pub minus_zero : ℕ
minus_zero = 0x8000_0000_0000_0000

abbrev pub quarter : ℕ
quarter = 0x3fd0_0000_0000_0000

abbrev pub half : ℕ
half = 0x3fe0_0000_0000_0000

abbrev pub one : ℕ
one = 0x3ff0_0000_0000_0000

abbrev pub infinity : ℕ
infinity = 0x7ff0_0000_0000_0000

abbrev pub minus_infinity : ℕ
minus_infinity = 0xfff0_0000_0000_0000

abbrev pub no_number : ℕ
no_number = 0x7ff8_0000_0000_0000

-- alarms, by the bits of their limits
abbrev pub above : ℕ → Alarm
above limit = Above (float limit)

abbrev pub below : ℕ → Alarm
below limit = Below (float limit)

abbrev pub outside : ℕ → ℕ → Alarm
outside low high = Outside (float low) (float high)

-- no number is above infinity
abbrev pub never : Alarm
never = above infinity

-- the readings are as said
abbrev pub comes : Reading → Outcome → Bool
comes r silent = eqb (number_of r.status) 0 && not r.sounds
comes r sounding = eqb (number_of r.status) 0 && r.sounds
comes r refused = eqb (number_of r.status) 10 && not r.sounds

abbrev pub right : Reading → Outcome → ℕ → ℕ → Bool
right r o last smoothed =
    comes r o && (eqb (to_bits binary64 r.gauge.last) last && eqb (to_bits binary64 r.gauge.smoothed) smoothed)

abbrev pub follows : Gauge → List Step → Bool
follows g [] = true
follows g (step a held total o last smoothed ∷ ss) =
    let r = reading g a held total in
    right r o last smoothed && follows r.gauge ss

abbrev pub repeated : ℕ → ℕ → ℕ → Gauge → Gauge
repeated zero held total g = g
repeated (suc n) held total g = repeated n held total (reading g never held total).gauge

abbrev pub holds : Row → Bool
holds (start ss) = follows fresh ss
holds (alike n held total smoothed) = eqb (to_bits binary64 (repeated n held total fresh).smoothed) smoothed
holds (kept last smoothed ss) = follows (record { last = float last; smoothed = float smoothed }) ss
holds (totals free held o last smoothed) = right (reading_of fresh never (information_of 1 (free ∷ []) (held ∷ []))) o last smoothed

-- all held, and none held
abbrev pub full : Alarm → Outcome → ℕ → Step
full a o smoothed = step a 960 960 o one smoothed

abbrev pub empty : Alarm → Outcome → ℕ → Step
empty a o smoothed = step a 0 960 o 0 smoothed

-- a reading of half the bytes that is refused, and leaves these fills
abbrev pub refuses : Alarm → ℕ → ℕ → Step
refuses a last smoothed = step a 480 960 refused last smoothed

abbrev pub table : List Row
table =
    -- 1 of 3 bytes, then 2 of 3: the second smoothed fill ends in 4, and in 5 where it were rounded once or mixed of both fills.
    start
    (step never 1 3 silent 0x3fd5_5555_5555_5555 0x3fb5_5555_5555_5555
    ∷ step never 2 3 silent 0x3fe5_5555_5555_5555 0x3fcd_5555_5555_5554
    ∷ [])
    -- The ends are exact. The new smoothed fill is compared, and not the one before: 0.25 sounds at 0.2, then 0.1875 doesn't.
    ∷ start
    (full (above 0x3fc9_9999_9999_999a) sounding quarter
    ∷ empty (above 0x3fc9_9999_9999_999a) silent 0x3fc8_0000_0000_0000
    ∷ [])
    -- At the limit every alarm is silent; a limit next to it sounds.
    ∷ start (full (above quarter) silent quarter ∷ [])
    ∷ start (full (below quarter) silent quarter ∷ [])
    ∷ start (full (outside quarter quarter) silent quarter ∷ [])
    ∷ start (full (above 0x3fcf_ffff_ffff_ffff) sounding quarter ∷ [])
    ∷ start (full (below 0x3fd0_0000_0000_0001) sounding quarter ∷ [])
    ∷ start (full (outside 0x3fd0_0000_0000_0001 one) sounding quarter ∷ [])
    ∷ start (full (outside 0 0x3fcf_ffff_ffff_ffff) sounding quarter ∷ [])
    ∷ start (empty (above minus_zero) silent 0 ∷ [])
    -- An infinity is a number.
    ∷ start (full (above minus_infinity) sounding quarter ∷ [])
    ∷ start (full (below infinity) sounding quarter ∷ [])
    ∷ start (full (outside minus_infinity infinity) silent quarter ∷ [])
    ∷ start (full (outside infinity infinity) sounding quarter ∷ [])
    -- A limit that isn't a number, at each place; low above high.
    ∷ start (refuses (above no_number) 0 0 ∷ refuses (below no_number) 0 0 ∷ [])
    ∷ start (refuses (outside no_number one) 0 0 ∷ refuses (outside 0 no_number) 0 0 ∷ refuses (outside no_number no_number) 0 0 ∷ [])
    ∷ start (refuses (outside quarter 0x3fcf_ffff_ffff_ffff) 0 0 ∷ refuses (outside infinity minus_infinity) 0 0 ∷ [])
    -- A kept fill that isn't a number from 0 to 1: -0 is one.
    ∷ kept no_number 0 (refuses never no_number 0 ∷ [])
    ∷ kept 0 no_number (refuses never 0 no_number ∷ [])
    ∷ kept 0x3ff0_0000_0000_0001 0 (refuses never 0x3ff0_0000_0000_0001 0 ∷ [])
    ∷ kept 0 0x3ff0_0000_0000_0001 (refuses never 0 0x3ff0_0000_0000_0001 ∷ [])
    ∷ kept 0x8000_0000_0000_0001 one (refuses never 0x8000_0000_0000_0001 one ∷ [])
    ∷ kept one 0x8000_0000_0000_0001 (refuses never one 0x8000_0000_0000_0001 ∷ [])
    ∷ kept infinity 0 (refuses never infinity 0 ∷ [])
    ∷ kept minus_zero minus_zero (empty never silent 0 ∷ [])
    ∷ kept one one (full never silent one ∷ [])
    -- A total of 0, and held above total.
    ∷ kept half quarter (step never 0 0 refused half quarter ∷ step never 1 0 refused half quarter ∷ step never 961 960 refused half quarter ∷ [])
    -- The largest numbers.
    ∷ start (step never 1 0xffff_ffff silent 0x3df0_0000_0010_0000 0x3dd0_0000_0010_0000 ∷ [])
    ∷ start (step never 0xffff_fffe 0xffff_ffff silent 0x3fef_ffff_ffe0_0000 0x3fcf_ffff_ffe0_0000 ∷ [])
    -- Where a step rounds to nothing the smoothed fill stays: two units below 1, where 125 readings of all held lead, and at the two smallest
    -- fills above 0.
    ∷ alike 124 960 960 0x3fef_ffff_ffff_fffd
    ∷ alike 125 960 960 0x3fef_ffff_ffff_fffe
    ∷ kept one 0x3fef_ffff_ffff_fffe (full never silent 0x3fef_ffff_ffff_fffe ∷ [])
    ∷ kept 0 3 (empty never silent 2 ∷ empty never silent 2 ∷ [])
    -- By a region's information: 448 of 960 bytes; and a sum that 32 bits don't hold, 1 of 2^32.
    ∷ totals 512 448 silent 0x3fdd_dddd_dddd_ddde 0x3fbd_dddd_dddd_ddde
    ∷ totals 0xffff_ffff 1 silent 0x3df0_0000_0000_0000 0x3dd0_0000_0000_0000
    ∷ totals 0 0 refused 0 0
    ∷ []

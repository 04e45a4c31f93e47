-- Rules 17: the gauge of a region's fill, and its alarm. A fill is a float of 64 bits; `add`, `sub`, `mul` and `div` are IEEE 754's, and
-- each rounds once. Assumes nothing.
use Rattle.std.specs.Prelude.{ℕ, ◌+◌, Bool, false, cond, not, ◌&&◌, ◌||◌, eqb, ltb, pos, Float}
use Rattle.std.specs.Float.{binary64}
use Rattle.std.specs.Float.Ieee.{of_bits, of_int, add, sub, mul, div, lt, le, is_nan}
use Rattle.manager.specs.declared.Information.{Information}
use Rattle.manager.specs.declared.Status.TheVariants.{Successful, InvalidNumber}
use Rattle.gauge.specs.declared.Alarm.{Alarm}
use Rattle.gauge.specs.declared.Alarm.TheVariants.{Above, Below, Outside}
use Rattle.gauge.specs.declared.Gauge.{Gauge}
use Rattle.gauge.specs.declared.Reading.{Reading}

-- 0, 1 and 0.25, by their bits
abbrev pub zero : Float
zero = of_bits binary64 0

abbrev pub one : Float
one = of_bits binary64 0x3ff0_0000_0000_0000

abbrev pub quarter : Float
quarter = of_bits binary64 0x3fd0_0000_0000_0000

-- both fills start at 0
abbrev pub fresh : Gauge
fresh = record { last = zero; smoothed = zero }

-- The fill is held bytes over total bytes: none held is 0 and all held is 1, without dividing; else one division
abbrev pub fill_of : ℕ → ℕ → Float
fill_of held total =
    cond (eqb held 0) zero
    (cond (eqb held total) one
    (div binary64 (of_int binary64 (pos held)) (of_int binary64 (pos total))))

-- The smoothed fill is s + (x - s) × 0.25, in that order
abbrev pub smoothed_by : Float → Float → Float
smoothed_by s x = add binary64 s (mul binary64 (sub binary64 x s) quarter)

-- An alarm sounds exactly when the comparison holds; equality is silent
abbrev pub sounds_at : Alarm → Float → Bool
sounds_at (Above limit) s = lt limit s
sounds_at (Below limit) s = lt s limit
sounds_at (Outside low high) s = lt s low || lt high s

-- a limit that isn't a number, low above high
abbrev pub wrong_limits : Alarm → Bool
wrong_limits (Above limit) = is_nan limit
wrong_limits (Below limit) = is_nan limit
wrong_limits (Outside low high) = is_nan low || (is_nan high || lt high low)

-- a number from 0 to 1: a NaN is in no order with either
abbrev pub is_fill : Float → Bool
is_fill x = le zero x && le x one

-- What is refused: the limits, a kept fill that isn't a number from 0 to 1, a total of 0, held above total
unfoldable pub wrong : Gauge → Alarm → ℕ → ℕ → Bool
wrong g a held total =
    wrong_limits a || (not (is_fill g.last) || (not (is_fill g.smoothed) || (eqb total 0 || ltb total held)))

-- 10 leaves the gauge as it was, and the alarm silent
abbrev pub refused : Gauge → Reading
refused g = record { gauge = g; status = InvalidNumber; sounds = false }

-- the new gauge, and the alarm by its smoothed fill
abbrev pub taken : Alarm → Gauge → Reading
taken a g = record { gauge = g; status = Successful; sounds = sounds_at a g.smoothed }

abbrev pub moved : Gauge → Float → Gauge
moved g x = record { last = x; smoothed = smoothed_by g.smoothed x }

unfoldable pub reading : Gauge → Alarm → ℕ → ℕ → Reading
reading g a held total = cond (wrong g a held total) (refused g) (taken a (moved g (fill_of held total)))

-- by a region's information: the held total, and the sum of both totals
abbrev pub reading_of : Gauge → Alarm → Information → Reading
reading_of g a i = reading g a i.held_total (i.free_total + i.held_total)

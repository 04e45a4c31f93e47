-- WRONG GAUGES: each is wrong in one rule, and for each there is a reading that it answers otherwise than the definition. So no code that
-- does as one of them meets the contract of `read`, and none that does as the ninth that of `read_information`. Assumes nothing.
use Prim.Native.Nat.{ℕ, ◌+◌, ◌*◌, ◌%◌, ◌^◌}
use mathlib.Core.Path.{◌≡◌, refl, sym, ap, ◌∙◌}
use mathlib.Core.Bool.{Bool, true, false, cond, not, ◌||◌, true≢false}
use mathlib.Core.List.{[], ◌∷◌}
use lib.Dec.{eqb, ltb}
use lib.Ieee.{Float, nan, binary64, to_bits, round, add, mul, lt, le}
use lib.Ieee.Positive.{num, den}
use Rattle.manager.specs.Map.{sum_of}
use Rattle.manager.specs.Regions.{information_of}
use Rattle.manager.specs.declared.Information.{Information}
use Rattle.manager.specs.declared.Status.TheVariants.{Successful, InvalidNumber}
use Rattle.gauge.specs.Gauge.{quarter, fresh, fill_of, sounds_at, is_fill, wrong_limits, wrong, refused, taken, moved, reading, reading_of}
use Rattle.gauge.specs.Examples.{float, above, never}
use Rattle.gauge.specs.declared.Alarm.{Alarm}
use Rattle.gauge.specs.declared.Alarm.TheVariants.{Above, Below, Outside}
use Rattle.gauge.specs.declared.Gauge.{Gauge}
use Rattle.gauge.specs.declared.Reading.{Reading}
use Rattle.gauge.proofs.Computing.{floats, readings}

-- what a gauge does, and what the contract asks of it
abbrev Implementation : Type 0
Implementation = Gauge → Alarm → ℕ → ℕ → Reading

abbrev Right : Implementation → Type 0
Right f = (g : Gauge) (a : Alarm) (held total : ℕ) → f g a held total ≡ reading g a held total

-- one reading that a test tells apart
differs : (f : Implementation) (g : Gauge) (a : Alarm) (held total : ℕ) (test : Reading → Bool)
    → test (f g a held total) ≡ true → test (reading g a held total) ≡ false → ¬ Right f
differs f g a held total test here there right = true≢false (sym here ∙ ap test (right g a held total) ∙ there)

-- the gauge with another smoothing, another comparison or another refusal
abbrev smoothing : (Float → Float → Float) → Implementation
smoothing smooth g a held total =
    let x = fill_of held total in
    cond (wrong g a held total) (refused g) (taken a (record { last = x; smoothed = smooth g.smoothed x }))

abbrev comparing : (Gauge → Alarm → Float → Bool) → Implementation
comparing sounds g a held total =
    let g' = moved g (fill_of held total) in
    cond (wrong g a held total) (refused g) (record { gauge = g'; status = Successful; sounds = sounds g a g'.smoothed })

abbrev refusing : (Gauge → Alarm → ℕ → ℕ → Bool) → (Gauge → Alarm → ℕ → ℕ → Reading) → Implementation
refusing wrong refuse g a held total = cond (wrong g a held total) (refuse g a held total) (taken a (moved g (fill_of held total)))

-- the bits of the smoothed fill
smoothed_is : ℕ → Reading → Bool
smoothed_is bits r = eqb (to_bits binary64 r.gauge.smoothed) bits

-- 1. AN ALARM SOUNDS AT ITS LIMIT
abbrev at_limit : Gauge → Alarm → Float → Bool
at_limit g (Above limit) s = le limit s
at_limit g (Below limit) s = le s limit
at_limit g (Outside low high) s = le s low || le high s

not_at_limit : ¬ Right (comparing at_limit)
unfolding floats readings
not_at_limit = differs (comparing at_limit) fresh (above 0x3fd0_0000_0000_0000) 960 960 (λ r. r.sounds) refl refl

-- 2. THE SMOOTHED FILL BEFORE THE READING IS COMPARED
abbrev before : Gauge → Alarm → Float → Bool
before g a s = sounds_at a g.smoothed

not_before : ¬ Right (comparing before)
unfolding floats readings
not_before = differs (comparing before) fresh (above 0) 960 960 (λ r. not r.sounds) refl refl

-- 3. ANOTHER ORDER: 0.75 s + 0.25 x. At 2 of 3 bytes after 1 of 3
abbrev mixed : Float → Float → Float
mixed s x = add binary64 (mul binary64 s (float 0x3fe8_0000_0000_0000)) (mul binary64 x quarter)

abbrev after_third : Gauge
after_third = record { last = float 0x3fd5_5555_5555_5555; smoothed = float 0x3fb5_5555_5555_5555 }

not_mixed : ¬ Right (smoothing mixed)
unfolding floats readings smoothed_is
not_mixed = differs (smoothing mixed) after_third never 2 3 (smoothed_is 0x3fcd_5555_5555_5555) refl refl

-- 4. A FUSED STEP: s + (x - s) / 4 is rounded once, and not three times
abbrev fused : Float → Float → Float
fused s x = round binary64 false (3 * num s * den x + num x * den s) (4 * den s * den x)

not_fused : ¬ Right (smoothing fused)
unfolding floats readings smoothed_is
not_fused = differs (smoothing fused) after_third never 2 3 (smoothed_is 0x3fcd_5555_5555_5555) refl refl

-- 5. A LIMIT THAT ISN'T A NUMBER IS TAKEN, since neither comparison with it holds
abbrev crossed : Alarm → Bool
crossed (Above limit) = false
crossed (Below limit) = false
crossed (Outside low high) = lt high low

abbrev limits_by_order : Gauge → Alarm → ℕ → ℕ → Bool
limits_by_order g a held total = crossed a || (not (is_fill g.last) || (not (is_fill g.smoothed) || (eqb total 0 || ltb total held)))

-- it takes the reading, and the fill moves
moves : Reading → Bool
moves r = not (eqb (to_bits binary64 r.gauge.last) 0)

abbrev as_it_was : Implementation
as_it_was g a held total = refused g

not_limits_by_order : ¬ Right (refusing limits_by_order as_it_was)
unfolding floats readings moves
not_limits_by_order = differs (refusing limits_by_order as_it_was) fresh (Outside nan nan) 960 960 moves refl refl

-- 6. ONLY THE SMOOTHED FILL IS CHECKED, which alone is computed with
abbrev last_trusted : Gauge → Alarm → ℕ → ℕ → Bool
last_trusted g a held total = wrong_limits a || (not (is_fill g.smoothed) || (eqb total 0 || ltb total held))

not_last_trusted : ¬ Right (refusing last_trusted as_it_was)
unfolding floats readings smoothed_is
not_last_trusted = differs (refusing last_trusted as_it_was) (record { last = nan; smoothed = float 0 }) never 960 960 (smoothed_is 0x3fd0_0000_0000_0000) refl refl

-- 7. A REFUSED READING KEEPS THE FILL
abbrev keeping : Implementation
keeping g a held total = record { gauge = record { last = fill_of held total; smoothed = g.smoothed }; status = InvalidNumber; sounds = false }

not_keeping : ¬ Right (refusing wrong keeping)
unfolding floats readings moves
not_keeping = differs (refusing wrong keeping) fresh (Above nan) 960 960 moves refl refl

-- 8. A REFUSED READING SOUNDS, by the smoothed fill that is kept
abbrev sounding : Implementation
sounding g a held total = record { gauge = g; status = InvalidNumber; sounds = sounds_at a g.smoothed }

not_sounding : ¬ Right (refusing wrong sounding)
unfolding floats readings
not_sounding = differs (refusing wrong sounding) (record { last = float 0; smoothed = float 0x3fd0_0000_0000_0000 }) (above 0) 1 0 (λ r. r.sounds) refl refl

-- 9. THE SUM OF BOTH TOTALS WRAPS: 1 of 2 ^ 32 bytes is refused
abbrev wrapping : Gauge → Alarm → Information → Reading
wrapping g a i = reading g a i.held_total ((i.free_total + i.held_total) % 2 ^ 32)

abbrev every_byte : Information
every_byte = information_of 1 (0xffff_ffff ∷ []) (1 ∷ [])

not_wrapping : ¬ ((g : Gauge) (a : Alarm) (i : Information) → wrapping g a i ≡ reading_of g a i)
unfolding floats readings moves sum_of
not_wrapping right =
    let there : moves (reading_of fresh never every_byte) ≡ true = refl in
    let here : moves (wrapping fresh never every_byte) ≡ false = refl in
    true≢false (sym there ∙ sym (ap moves (right fresh never every_byte)) ∙ here)

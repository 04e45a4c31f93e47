-- WHAT THE LIBRARY'S GAUGE SHOWS: every list of its readings from two words of 0, refused ones included. The words are those of the gauge
-- that the same readings leave, so that what is claimed of readings (gauge/specs/Readings.antt) holds of the library. Assumes nothing.
use Rattle.std.specs.Prelude.{ℕ, ◌+◌, ◌^◌, ◌≤◌, ◌≡◌, true, cond, List, [], ◌∷◌, leb, length, get_or}
use Rattle.manager.specs.Status.{number_of}
use Rattle.gauge.specs.Gauge.{fresh}
use Rattle.gauge.specs.Readings.{Asked, answer, after}
use Rattle.firmware.specs.Exported.{notices_at}
use Rattle.firmware.specs.Reading.{Left, alarm_at, last_alarm, gauge_words, gauge_read, gauge_read_from}

-- a call of `sc_gauge_read`: its numbers, with a total that a float of 64 bits counts
pub record Read : Type 0 where
  pub alarm : ℕ
  pub limit : ℕ
  pub high : ℕ
  pub held : ℕ
  pub total : ℕ
  pub counts : total ≤ 2 ^ 53

-- what it leaves, over a gauge's words and the word for the alarm
abbrev pub leaves : List ℕ → ℕ → Read → Left
leaves words sounds r = gauge_read words sounds r.alarm r.limit r.high r.held r.total

-- the words after a list of calls
unfoldable pub words_after : List ℕ → List Read → List ℕ
words_after words [] = words
words_after words (r ∷ rs) = words_after (leaves words 0 r).words rs

-- the readings that they are; a call with an alarm that is none is no reading
abbrev pub asks : Read → Asked
asks r = record { alarm = alarm_at r.alarm r.limit r.high; held = r.held; total = r.total; counts = r.counts }

unfoldable pub asked : List Read → List Asked
asked [] = []
asked (r ∷ rs) = cond (leb r.alarm last_alarm) (asks r ∷ asked rs) (asked rs)

pub record GaugeByReadings : Type 0 where
  -- the words are those of the gauge that the readings leave
  pub words : (l : List Read) → words_after (0 ∷ 0 ∷ []) l ≡ gauge_words (after fresh (asked l))
  -- and the next call is answered as the next reading of that gauge
  pub status : (l : List Read) (sounds : ℕ) (r : Read) → leb r.alarm last_alarm ≡ true
      → (leaves (words_after (0 ∷ 0 ∷ []) l) sounds r).status ≡ number_of (answer (after fresh (asked l)) (asks r)).status
  pub sounds : (l : List Read) (sounds : ℕ) (r : Read) → leb r.alarm last_alarm ≡ true
      → (leaves (words_after (0 ∷ 0 ∷ []) l) sounds r).sounds ≡ cond (answer (after fresh (asked l)) (asks r)).sounds 1 0
  -- a call with an answer is one with the held total and the sum of both totals
  pub from : (words : List ℕ) (sounds alarm limit high : ℕ) (given : List ℕ) → notices_at ≤ length given
      → gauge_read_from words sounds alarm limit high given
      ≡ gauge_read words sounds alarm limit high (get_or given 6 0) (get_or given 3 0 + get_or given 6 0)

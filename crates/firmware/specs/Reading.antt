-- What the exported functions of a gauge leave, for every input. The caller keeps a gauge as two words, the bits of its fills, and the limits
-- of an alarm are bits too; a word says whether the alarm sounds. An alarm that is none is answered 25, with nothing changed. Assumes nothing.
use Rattle.std.specs.Prelude.{ℕ, ◌≡◌, Bool, cond, not, ◌&&◌, List, [], ◌∷◌, T, eqb, leb, length, get_or}
use Rattle.std.proofs.lemmas.List.Edits.{sets}
use Rattle.std.specs.Float.{binary64}
use Rattle.std.specs.Float.Ieee.{of_bits, to_bits, is_nan}
use Rattle.gauge.specs.Gauge.{reading, reading_of}
use Rattle.gauge.specs.declared.Alarm.{Alarm}
use Rattle.gauge.specs.declared.Alarm.TheVariants.{Above, Below, Outside}
use Rattle.gauge.specs.declared.Gauge.{Gauge}
use Rattle.gauge.specs.declared.Reading.{Reading}
use Rattle.manager.specs.Status.{number_of}
use Rattle.manager.specs.declared.Information.{Information}
use Rattle.manager.specs.declared.Status.TheVariants.{InternalError}
use Rattle.firmware.specs.Exported.{notices_at}

-- a gauge of two words, and the words of a gauge
abbrev pub gauge_at : List ℕ → Gauge
gauge_at words = record { last = of_bits binary64 (get_or words 0 0); smoothed = of_bits binary64 (get_or words 1 0) }

abbrev pub gauge_words : Gauge → List ℕ
gauge_words g = to_bits binary64 g.last ∷ to_bits binary64 g.smoothed ∷ []

-- the six values of information in the words of an answer
abbrev pub information_at : List ℕ → Information
information_at answer =
    record {
      free_count = get_or answer 1 0;
      free_largest = get_or answer 2 0;
      free_total = get_or answer 3 0;
      held_count = get_or answer 4 0;
      held_largest = get_or answer 5 0;
      held_total = get_or answer 6 0;
    }

-- the alarms: 0 is above a limit, 1 below it, 2 outside it and a high one
abbrev pub alarm_at : ℕ → ℕ → ℕ → Alarm
alarm_at alarm limit high =
    cond (eqb alarm 0) (Above (of_bits binary64 limit))
    (cond (eqb alarm 1) (Below (of_bits binary64 limit)) (Outside (of_bits binary64 limit) (of_bits binary64 high)))

abbrev pub last_alarm : ℕ
last_alarm = 2

-- what a reading leaves
pub record Left : Type 0 where
  pub words : List ℕ
  pub sounds : ℕ
  pub status : ℕ

-- a refusal leaves the words, also those of a NaN
abbrev pub left : List ℕ → Reading → Left
left words r =
    record {
      words = cond (eqb (number_of r.status) 0) (sets words 0 (gauge_words r.gauge)) words;
      sounds = cond r.sounds 1 0;
      status = number_of r.status;
    }

-- a reading of the gauge of two words with an alarm that is one; else 25, and nothing is changed
abbrev pub read_with : Bool → List ℕ → ℕ → Alarm → (Gauge → Alarm → Reading) → Left
read_with ok words sounds a read =
    cond ok (left words (read (gauge_at words) a)) (record { words = words; sounds = sounds; status = number_of InternalError })

-- a reading of so many held bytes of a total
unfoldable pub gauge_read : List ℕ → ℕ → ℕ → ℕ → ℕ → ℕ → ℕ → Left
gauge_read words sounds alarm limit high held total =
    read_with (leb alarm last_alarm) words sounds (alarm_at alarm limit high) (λ g a. reading g a held total)

-- a reading by the information in an answer, which is long enough to have it
unfoldable pub gauge_read_from : List ℕ → ℕ → ℕ → ℕ → ℕ → List ℕ → Left
gauge_read_from words sounds alarm limit high answer =
    read_with (leb alarm last_alarm && leb notices_at (length answer)) words sounds (alarm_at alarm limit high)
    (λ g a. reading_of g a (information_at answer))

-- WHAT EACH CONTRACT SAYS: the words, whether the alarm sounds and the status are those of the definition
pub record LeavesGauge (l : Left) (words : List ℕ) (sounds status : ℕ) : Type 0 where
  pub kept : words ≡ l.words
  pub alarm : sounds ≡ l.sounds
  pub number : status ≡ l.status

-- where a reading is answered 0, both fills are numbers
pub record Numbers (r : Reading) : Type 0 where
  pub last : number_of r.status ≡ 0 → T (not (is_nan r.gauge.last))
  pub smoothed : number_of r.status ≡ 0 → T (not (is_nan r.gauge.smoothed))

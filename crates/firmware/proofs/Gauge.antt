-- What the exported functions of a gauge need of the definitions, over plain variables: floats by their bits, and what a reading leaves.
-- Assumes nothing.
use Prim.Native.Nat.{ℕ, ◌+◌, ◌%◌, ◌^◌, ◌≤◌, ◌<◌}
use mathlib.Core.Path.{◌≡◌, refl, sym, ap, ◌∙◌, subst}
use mathlib.Core.Bool.{Bool, true, false, cond, not, ◌&&◌, true≢false}
use mathlib.Core.List.{List}
use native.Mathlib.Omega.{arith}
use Rattle.std.proofs.Common.{Option, Some, None}
use Rattle.std.proofs.lemmas.Option.{none-some, cond_some}
use borrow.Author.Tests.{eq-eqb, ne_eqb, lt-ltb, le-ltb}
use lib.Dec.{T, leb, ltb}
use lib.ListN.{get_or, length, set}
use lib.Ieee.{Float, nan, inf, fin, binary64, of_bits, to_bits, is_nan, nan_bits, fits}
use lib.Ieee.Bits.{nan_bits_is, nan_bits_above, of_bits-fits}
use Rattle.gauge.specs.declared.Gauge.{Gauge}
use Rattle.gauge.specs.Gauge.{reading, reading_of}
use Rattle.gauge.specs.declared.Alarm.{Alarm}
use Rattle.gauge.specs.declared.Reading.{Reading}
use Rattle.gauge.proofs.Laws.Fills.{taken_numbers}
use Rattle.manager.specs.Status.{number_of}
use Rattle.manager.specs.declared.Information.{Information}
use mir.Syntax.{w32}
use mir.Val.{Fits, bool_byte}
use Rattle.firmware.specs.Exported.{notices_at}
use Rattle.firmware.specs.Reading.{alarm_at, gauge_at, information_at, last_alarm, Left, left, read_with, gauge_read, gauge_read_from, LeavesGauge, Numbers}

-- THE FLOAT OF A BIT PATTERN
abbrev infinity : ℕ
infinity = 0x7ff0_0000_0000_0000

abbrev sign : ℕ
sign = 0x8000_0000_0000_0000

-- above infinity, the sign's bit taken off, are the patterns of NaNs
nan_bits_lem : (n : ℕ) → nan_bits binary64 n ≡ ltb infinity (n % sign)
nan_bits_lem n = nan_bits_above binary64 n

only_nan : (x : Float) → is_nan x ≡ true → x ≡ nan
unfolding is_nan
only_nan nan e = refl
only_nan (inf s) e = absurd (true≢false (sym e))
only_nan (fin s m d) e = absurd (true≢false (sym e))

pub nan_read : (n : ℕ) → infinity < n % sign → of_bits binary64 0x7ff8_0000_0000_0000 ≡ of_bits binary64 n
unfolding of_bits
nan_read n h = sym (only_nan (of_bits binary64 n) (sym (nan_bits_is binary64 n) ∙ nan_bits_lem n ∙ lt-ltb _ _ h))

pub number_read : (n : ℕ) → n % sign ≤ infinity → T (not (nan_bits binary64 n))
number_read n h = subst (λ b. T (not b)) (sym (nan_bits_lem n ∙ le-ltb _ _ h)) tt

-- WHAT A READING LEAVES
byte : (b : Bool) → bool_byte b ≡ cond b 1 0
byte true = refl
byte false = refl

module _ (words : List ℕ) (r : Reading) (n : ℕ) (status : n ≡ number_of r.status) where
  pub left_taken : n ≡ 0
      → LeavesGauge (left words r) (set (set words 0 (to_bits binary64 r.gauge.last)) 1 (to_bits binary64 r.gauge.smoothed)) (bool_byte r.sounds) n
  left_taken e =
      record {
        kept = rw (eq-eqb (number_of r.status) 0 (sym status ∙ e));
        alarm = byte r.sounds;
        number = status;
      }

  pub left_refused : (n ≡ 0 → ⊥) → LeavesGauge (left words r) words (bool_byte r.sounds) n
  left_refused h =
      record {
        kept = rw (ne_eqb (number_of r.status) 0 (λ e. h (status ∙ e)));
        alarm = byte r.sounds;
        number = status;
      }

-- THE EXPORTED FUNCTIONS
module _ (ok : Bool) (words : List ℕ) (sounds : ℕ) (a : Alarm) (read : Gauge → Alarm → Reading) where
  untouched : ok ≡ false → LeavesGauge (read_with ok words sounds a read) words sounds 25
  untouched e = record { kept = rw e; alarm = rw e; number = rw e }

  is_left : ok ≡ true → (b : Alarm) → b ≡ a → (g : Gauge) → g ≡ gauge_at words → (r : Reading) → r ≡ read g b
      → (words' : List ℕ) (sounds' status : ℕ) → LeavesGauge (left words r) words' sounds' status
      → LeavesGauge (read_with ok words sounds a read) words' sounds' status
  is_left e b b-is g g-is r r-is words' sounds' status l =
      subst (λ (o : Left). LeavesGauge o words' sounds' status) (rw (e, r-is, g-is, b-is)) l

-- the alarm that is asked for, if it is one
abbrev asked : ℕ → ℕ → ℕ → Option Alarm
asked alarm limit high = cond (leb alarm last_alarm) (Some (alarm_at alarm limit high)) None

abbrev told : List ℕ → Option Information
told answer = cond (leb notices_at (length answer)) (Some (information_at answer)) None

none_is : {A : Type 0} (b : Bool) (x : A) → None ≡ cond b (Some x) None → b ≡ false
none_is true x h = absurd (none-some x h)
none_is false x h = refl

-- with numbers: an alarm that is none, and one
module _ (words : List ℕ) (sounds alarm limit high held total : ℕ) where
  pub no_alarm : None ≡ asked alarm limit high → LeavesGauge (gauge_read words sounds alarm limit high held total) words sounds 25
  unfolding gauge_read
  no_alarm h =
      untouched (leb alarm last_alarm) words sounds (alarm_at alarm limit high) (λ g a. reading g a held total) (none_is _ _ h)

  pub an_alarm : (a : Alarm) → Some a ≡ asked alarm limit high → (g : Gauge) → g ≡ gauge_at words
      → (r : Reading) → r ≡ reading g a held total → (words' : List ℕ) (sounds' status : ℕ) → LeavesGauge (left words r) words' sounds' status
      → LeavesGauge (gauge_read words sounds alarm limit high held total) words' sounds' status
  unfolding gauge_read
  an_alarm a h =
      let is = cond_some (leb alarm last_alarm) (alarm_at alarm limit high) a (sym h) in
      is_left (leb alarm last_alarm) words sounds (alarm_at alarm limit high) (λ g a. reading g a held total) is.0 a (sym is.1)

-- with an answer: an alarm that is none, an answer that is too short, and both right
module _ (words : List ℕ) (sounds alarm limit high : ℕ) (answer : List ℕ) where
  abbrev both : Bool
  both = leb alarm last_alarm && leb notices_at (length answer)

  pub no_alarm_from : None ≡ asked alarm limit high → LeavesGauge (gauge_read_from words sounds alarm limit high answer) words sounds 25
  unfolding gauge_read_from
  no_alarm_from h =
      let no : leb alarm last_alarm ≡ false = none_is _ _ h in
      untouched both words sounds (alarm_at alarm limit high) (λ g a. reading_of g a (information_at answer)) (rw no)

  pub no_answer : (a : Alarm) → Some a ≡ asked alarm limit high → None ≡ told answer → LeavesGauge (gauge_read_from words sounds alarm limit high answer) words sounds 25
  unfolding gauge_read_from
  no_answer a h k =
      let is = cond_some (leb alarm last_alarm) (alarm_at alarm limit high) a (sym h) in
      let no : leb notices_at (length answer) ≡ false = none_is _ _ k in
      untouched both words sounds (alarm_at alarm limit high) (λ g a. reading_of g a (information_at answer)) (rw (is.0, no))

  pub an_answer : (a : Alarm) → Some a ≡ asked alarm limit high → (i : Information) → Some i ≡ told answer → (g : Gauge) → g ≡ gauge_at words
      → (r : Reading) → r ≡ reading_of g a i → (words' : List ℕ) (sounds' status : ℕ) → LeavesGauge (left words r) words' sounds' status
      → LeavesGauge (gauge_read_from words sounds alarm limit high answer) words' sounds' status
  unfolding gauge_read_from
  an_answer a h i k g g-is r r-is =
      let is = cond_some (leb alarm last_alarm) (alarm_at alarm limit high) a (sym h) in
      let has = cond_some (leb notices_at (length answer)) (information_at answer) i (sym k) in
      is_left both words sounds (alarm_at alarm limit high) (λ g a. reading_of g a (information_at answer))
      (rw (is.0, has.0)) a (sym is.1) g g-is r (r-is ∙ ap (reading_of g a) (sym has.1))

-- a reading of the gauge in two words leaves numbers, where a float counts its total
words_fit : (words : List ℕ) → T (fits binary64 (gauge_at words).smoothed)
words_fit words = of_bits-fits binary64 (get_or words 1 0)

numbers : (words : List ℕ) (a : Alarm) (held total : ℕ) (g : Gauge) (r : Reading) → total ≤ 2 ^ 53 → g ≡ gauge_at words
    → r ≡ reading g a held total → Numbers r
numbers words a held total g r c g-is r-is =
    let law = taken_numbers (gauge_at words) a held total c (words_fit words) in
    let is : r ≡ reading (gauge_at words) a held total = r-is ∙ ap (λ g. reading g a held total) g-is in
    subst Numbers (sym is) (record { last = λ e. (law e).last; smoothed = λ e. (law e).smoothed })

-- by a total of 32 bits, and by the sum of two
pub numbers_read : (words : List ℕ) (a : Alarm) (held total : ℕ) (g : Gauge) (r : Reading) → Fits w32 total → g ≡ gauge_at words
    → r ≡ reading g a held total → Numbers r
numbers_read words a held total g r h = numbers words a held total g r (counts h.fits)
  where
    counts : total < 2 ^ 32 → total ≤ 2 ^ 53
    counts h = omega arith

pub numbers_read_from : (words answer : List ℕ) (a : Alarm) (g : Gauge) (i : Information) (r : Reading)
    → Fits w32 (get_or answer 3 0) → Fits w32 (get_or answer 6 0) → g ≡ gauge_at words → Some i ≡ told answer → r ≡ reading_of g a i → Numbers r
numbers_read_from words answer a g i r h k g-is i-is r-is =
    let has = cond_some (leb notices_at (length answer)) (information_at answer) i (sym i-is) in
    numbers words a (get_or answer 6 0) (get_or answer 3 0 + get_or answer 6 0) g r (counts (get_or answer 3 0) (get_or answer 6 0) h.fits k.fits) g-is
    (r-is ∙ ap (reading_of g a) (sym has.1))
  where
    counts : (m n : ℕ) → m < 2 ^ 32 → n < 2 ^ 32 → m + n ≤ 2 ^ 53
    counts m n h k = omega arith

-- The bits of a fill that a float of 64 bits holds say that fill again, and a gauge that was started and only read keeps such fills. So the
-- words go along with the gauge. Assumes nothing.
use Prim.Native.Nat.{ℕ, ◌+◌, ◌≤◌}
use mathlib.Core.Path.{◌≡◌, refl, ap, ◌∙◌}
use mathlib.Core.Bool.{Bool, true, false, cond, ◌&&◌}
use mathlib.Core.List.{List, [], ◌∷◌}
use borrow.Author.Tests.{le-leb}
use lib.Dec.{leb}
use lib.ListN.{length, get_or}
use lib.Ieee.{binary64, of_bits, to_bits}
use lib.Ieee.Bits.{of_bits-to_bits}
use Rattle.gauge.specs.Gauge.{fresh, wrong, reading}
use Rattle.gauge.specs.Readings.{Asked, answer, after}
use Rattle.gauge.specs.declared.Gauge.{Gauge}
use Rattle.gauge.proofs.Laws.Fills.{answered}
use Rattle.gauge.proofs.Laws.Smoothing.{fill_fits}
use Rattle.gauge.proofs.Claims.{Kept, fresh_kept, answer_kept, kept}
use Rattle.firmware.specs.Exported.{notices_at}
use Rattle.firmware.specs.Reading.{Left, last_alarm, gauge_at, gauge_words, information_at, left, gauge_read, gauge_read_from}
use Rattle.end_to_end.specs.Gauge.{Read, leaves, words_after, asks, asked, GaugeByReadings}

-- the words of a kept gauge say it
read_back : (g : Gauge) → Kept g → gauge_at (gauge_words g) ≡ g
read_back g k =
    rw (of_bits-to_bits binary64 g.last (fill_fits binary64 g.last k.last), of_bits-to_bits binary64 g.smoothed (fill_fits binary64 g.smoothed k.smoothed))

-- a refused reading leaves its gauge, and another one its own words
left_words : (g : Gauge) (r : Asked) → (left (gauge_words g) (answer g r)).words ≡ gauge_words (answer g r).gauge
unfolding reading
left_words g r = go (wrong g r.alarm r.held r.total)
  where
    go : (b : Bool) → (left (gauge_words g) (answered g r.alarm r.held r.total b)).words
        ≡ gauge_words (answered g r.alarm r.held r.total b).gauge
    go true = refl
    go false = refl

module _ (g : Gauge) (k : Kept g) (r : Read) (sounds : ℕ) where
  read_leaves : leb r.alarm last_alarm ≡ true → leaves (gauge_words g) sounds r ≡ left (gauge_words g) (answer g (asks r))
  unfolding gauge_read
  read_leaves e = rw (e, read_back g k)

  none_leaves : leb r.alarm last_alarm ≡ false → (leaves (gauge_words g) sounds r).words ≡ gauge_words g
  unfolding gauge_read
  none_leaves e = rw e

-- along a list
along : (l : List Read) (g : Gauge) → Kept g → words_after (gauge_words g) l ≡ gauge_words (after g (asked l))
unfolding words_after after asked
along [] g k = refl
along (r ∷ rs) g k = go (leb r.alarm last_alarm) refl (λ (h : Gauge) (j : Kept h). along rs h j)
  where
    go : (b : Bool) → leb r.alarm last_alarm ≡ b → ((h : Gauge) → Kept h → words_after (gauge_words h) rs ≡ gauge_words (after h (asked rs)))
        → words_after (leaves (gauge_words g) 0 r).words rs ≡ gauge_words (after g (cond b (asks r ∷ asked rs) (asked rs)))
    go true e rest =
        ap (λ (ws : List ℕ). words_after ws rs) (ap (λ (o : Left). o.words) (read_leaves g k r 0 e) ∙ left_words g (asks r))
        ∙ rest (answer g (asks r)).gauge (answer_kept g (asks r) k)
    go false e rest = ap (λ (ws : List ℕ). words_after ws rs) (none_leaves g k r 0 e) ∙ rest g k

-- two words of 0 are those of a fresh gauge
fresh_words : 0 ∷ 0 ∷ [] ≡ gauge_words fresh
unfolding to_bits of_bits
fresh_words = refl

abbrev zeros : List ℕ
zeros = 0 ∷ 0 ∷ []

all_words_lem : (l : List Read) → words_after zeros l ≡ gauge_words (after fresh (asked l))
all_words_lem l = ap (λ (ws : List ℕ). words_after ws l) fresh_words ∙ along l fresh fresh_kept

next : (l : List Read) (sounds : ℕ) (r : Read) → leb r.alarm last_alarm ≡ true
    → leaves (words_after zeros l) sounds r ≡ left (gauge_words (after fresh (asked l))) (answer (after fresh (asked l)) (asks r))
next l sounds r e = ap (λ (ws : List ℕ). leaves ws sounds r) (all_words_lem l) ∙ read_leaves (after fresh (asked l)) (kept (asked l)) r sounds e

-- an answer that is long enough is read as its two totals
from_totals : (words : List ℕ) (sounds alarm limit high : ℕ) (given : List ℕ) → notices_at ≤ length given
    → gauge_read_from words sounds alarm limit high given ≡ gauge_read words sounds alarm limit high (get_or given 6 0) (get_or given 3 0 + get_or given 6 0)
unfolding gauge_read_from gauge_read
from_totals words sounds alarm limit high given h = rw (le-leb notices_at (length given) h, and_true (leb alarm last_alarm))
  where
    and_true : (b : Bool) → (b && true) ≡ b
    and_true true = refl
    and_true false = refl

pub theorem_gauge : GaugeByReadings
theorem_gauge = record {
  words = all_words_lem;
  status = λ l sounds r e. ap (λ (o : Left). o.status) (next l sounds r e);
  sounds = λ l sounds r e. ap (λ (o : Left). o.sounds) (next l sounds r e);
  from = from_totals;
}

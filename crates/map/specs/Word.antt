-- A held segment read from its first word alone. In a sound map it is the segment that the words before it lead to. Assumes nothing.
use Rattle.std.specs.Prelude.{ℕ, ◌-◌, ◌*◌, ◌/◌, ◌%◌, Bool, cond, not, Option, None, Some, ◌&&◌, List, eqb, leb, get_or}
use Rattle.arith.specs.declared.Layout.{Layout}
use Rattle.manager.specs.Map.{is_held}
use Rattle.manager.specs.Region.{words_at}

-- the pages that word p says, where it is marked as held; else 0
abbrev pub held_word : List ℕ → ℕ → ℕ
held_word ws p = cond (is_held (get_or ws p 0)) (get_or ws p 0 / 2) 0

-- those of the word of the page at an address
abbrev pub held_word_at : List ℕ → Layout → ℕ → ℕ → ℕ
held_word_at m l page a =
    cond (not (eqb page 0) && (eqb (a % page) 0 && leb l.first (a / page))) (held_word (words_at m l) (a / page - l.first)) 0

-- pages that are said: 0 says none
abbrev pub some_pages : ℕ → Option ℕ
some_pages n = cond (eqb n 0) None (Some n)

-- the first word says a free segment of all pages
abbrev pub one_free : List ℕ → Layout → Bool
one_free m l = eqb (get_or (words_at m l) 0 0) (2 * l.pages)

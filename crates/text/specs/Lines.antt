-- Rule 15.1: "Lines end in a newline, at most 64 bytes with it; numbers are decimal, below 2^32, without leading zeros."
-- What reading finds, as definitions on the list of bytes. Assumes nothing.
use Rattle.std.specs.Prelude.{ℕ, zero, suc, ◌+◌, ◌-◌, ◌*◌, List, [], ◌∷◌, Bool, true, false, cond, length, take, drop, ltb, eqb, Option, Some, None, option_and_then}
use Rattle.text.specs.declared.Entry.{Entry}

-- the part of s from a up to e
abbrev pub part : List ℕ → ℕ → ℕ → List ℕ
part s a e = take (e - a) (drop a s)

-- the digits bs, read after a number a; each number on the way is below 2 ^ 32
unfoldable pub number_after : ℕ → List ℕ → Option ℕ
number_after a [] = Some a
number_after a (b ∷ bs) =
    cond (ltb b 48) None
    (cond (ltb 57 b) None
    (cond (ltb 4294967295 (a * 10 + (b - 48))) None
    (number_after (a * 10 + (b - 48)) bs)))

-- a whole number: at least one digit, and no zero in front of another
unfoldable pub number_of : List ℕ → Option ℕ
number_of [] = None
number_of (b ∷ []) = number_after 0 (b ∷ [])
number_of (b ∷ c ∷ bs) = cond (eqb b 48) None (number_after 0 (b ∷ c ∷ bs))

-- where the first newline of bs stands among its first k bytes; p is the place where bs starts
unfoldable pub line_from : ℕ → ℕ → List ℕ → Option ℕ
line_from zero p bs = None
line_from (suc k) p [] = None
line_from (suc k) p (b ∷ bs) = cond (eqb b 10) (Some p) (line_from k (suc p) bs)

-- where the line that starts at `at` ends
abbrev pub line_at : List ℕ → ℕ → Option ℕ
line_at s at = line_from 64 at (drop at s)

-- whether bs starts with ks
unfoldable pub starts : List ℕ → List ℕ → Bool
starts [] bs = true
starts (k ∷ ks) [] = false
starts (k ∷ ks) (b ∷ bs) = cond (eqb k b) (starts ks bs) false

abbrev pub took : ℕ → ℕ → Option Entry
took v q = Some (record { value = v; next = q })

-- the line at `at`: the key, and a number of at most `most`
unfoldable pub field_at : List ℕ → ℕ → List ℕ → ℕ → Option Entry
field_at s at key most =
    option_and_then
    (λ e.
    cond (starts key (part s at e))
    (option_and_then (λ v. cond (ltb most v) None (took v (e + 1))) (number_of (part s (at + length key) e)))
    None)
    (line_at s at)

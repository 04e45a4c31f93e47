-- What reading a script finds. "Each call is `call=` and then its keys, in this order." "The first bad or missing line ends the run."
-- Assumes nothing.
use Rattle.std.specs.Prelude.{ℕ, zero, suc, ◌+◌, List, [], ◌∷◌, ◌++◌, Bool, cond, length, take, drop, leb, Option, Some, None, Result, Ok, Err}
use Rattle.text.specs.Lines.{starts, field_at}
use Rattle.text.specs.declared.Entry.{Entry}
use Rattle.manager.specs.declared.Call.{Call}
use Rattle.script.specs.Table.{Key, Row, calls}
use Rattle.script.specs.declared.ReadCall.{ReadCall}
use Rattle.script.specs.declared.BadLine.{BadLine}

-- ---- one call

-- the first call whose line the bytes start with
unfoldable pub find_row : List Row → List ℕ → Option Row
find_row [] bs = None
find_row (r ∷ rs) bs = cond (starts r.line bs) (Some r) (find_row rs bs)

-- the line of a key
unfoldable pub key_at : List ℕ → ℕ → Key → Option Entry
key_at s at k = field_at s at k.text k.most

-- the numbers of a call's lines, and where the next line starts; or where the first bad or missing one starts
pub data Numbers : Type 0 where
  numbers : List ℕ → ℕ → Numbers
  wrong : ℕ → Numbers

abbrev pub on_entry : Option Entry → Numbers → (ℕ → ℕ → Numbers) → Numbers
on_entry (Some e) b f = f e.value e.next
on_entry None b f = b

-- the lines of the keys ks from p on, after the numbers vs
unfoldable pub numbers_from : List ℕ → List ℕ → ℕ → List Key → Numbers
numbers_from s vs p [] = numbers vs p
numbers_from s vs p (k ∷ ks) = on_entry (key_at s p k) (wrong p) λ v q. numbers_from s (vs ++ (v ∷ [])) q ks

-- what reading at a place finds: a call, whether its answer has six values, and where the next line starts; where the first bad or missing
-- line starts; nothing left
abbrev pub Read : Type 0
Read = Result (Option ReadCall) BadLine

abbrev pub found : Call → Bool → ℕ → Read
found c six q = Ok (Some (record { call = c; six_values = six; next = q }))

abbrev pub bad_at : ℕ → Read
bad_at p = Err (record { at = p })

abbrev pub no_more : Read
no_more = Ok None

abbrev pub on_numbers : Numbers → Row → Read
on_numbers (numbers vs q) r = found (r.call vs) r.six_values q
on_numbers (wrong p) r = bad_at p

abbrev pub on_row : Option Row → List ℕ → ℕ → Read
on_row (Some r) s at = on_numbers (numbers_from s [] (at + length r.line) r.keys) r
on_row None s at = bad_at at

-- the call at `at`
unfoldable pub read_call : List ℕ → ℕ → Read
read_call s at = cond (leb (length s) at) no_more (on_row (find_row calls (drop at s)) s at)

-- ---- a whole script

-- its calls, and where the first bad or missing line starts, if there is one
pub record Script : Type 0 where
  pub calls : List Call
  pub bad : Option ℕ

-- all of it is calls
abbrev pub whole : List Call → Script
whole cs = record { calls = cs; bad = None }

abbrev pub stops : ℕ → Script
stops p = record { calls = []; bad = Some p }

abbrev pub follows : Call → Script → Script
follows c t = record { calls = c ∷ t.calls; bad = t.bad }

abbrev pub on_read : Read → (ℕ → Script) → Script
on_read (Ok (Some c)) rest = follows c.call (rest c.next)
on_read (Ok None) rest = whole []
on_read (Err b) rest = stops b.at

-- at most k calls from `at` on
unfoldable pub read_from : ℕ → List ℕ → ℕ → Script
read_from zero s at = whole []
read_from (suc k) s at = on_read (read_call s at) λ q. read_from k s q

-- a call takes a byte or more, so there are no more calls than bytes
unfoldable pub read_all : List ℕ → Script
read_all s = read_from (suc (length s)) s 0

-- ---- what `read_fields` answers, with the n numbers that it left
abbrev pub fields_of : Result ℕ BadLine → List ℕ → ℕ → Numbers
fields_of (Ok q) vs n = numbers (take n vs) q
fields_of (Err b) vs n = wrong b.at

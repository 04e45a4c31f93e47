-- Scripts and what they are read as, computed: a whole script, and lines that are bad. Assumes nothing.
use mathlib.Core.Path.{◌≡◌, refl}
use mathlib.Core.List.{List, [], ◌∷◌}
use Rattle.std.specs.Prelude.{Some}
use Rattle.text.specs.Bytes.{bytes}
use Rattle.text.specs.Lines.{number_after, number_of, line_from, starts, field_at}
use Rattle.text.specs.Decimal.{digits, decimal, line_of}
use Rattle.manager.specs.declared.Order.TheVariants.{Fifo, HalvesPriority}
use Rattle.manager.specs.declared.Wait.TheVariants.{No}
use Rattle.manager.specs.declared.Call.{Call}
use Rattle.manager.specs.declared.Call.TheVariants.{CreateRegion, GetSegment, ReturnSegment, RegionInformation, Tick}
use Rattle.script.specs.Reading.{find_row, key_at, numbers_from, read_call, read_from, read_all, whole}
use Rattle.script.specs.Written.{write_fields, write, write_all}

-- the whole case
abbrev whole_case : List Call
whole_case = CreateRegion 1 4 1020 64 Fifo ∷ GetSegment 1 65 0 No 0 0 0 ∷ []

pub whole_case_lem : read_all (bytes "call=create-region\nname=1\nstart=4\nlength=1020\npage=64\norder=0\ncall=get\nid=1\nsize=65\nalign=0\nwait=0\ntask=0\npriority=0\nticks=0\n") ≡ whole whole_case
unfolding read_all read_from read_call find_row key_at numbers_from field_at line_from starts number_of number_after
whole_case_lem = refl

pub whole_written : write_all whole_case ≡ bytes "call=create-region\nname=1\nstart=4\nlength=1020\npage=64\norder=0\ncall=get\nid=1\nsize=65\nalign=0\nwait=0\ntask=0\npriority=0\nticks=0\n"
unfolding write_all write write_fields line_of decimal digits
whole_written = refl

-- get's alignment comes directly behind its size: not before it, and it is not left out
pub aligned : read_all (bytes "call=get\nid=1\nsize=65\nalign=256\nwait=0\ntask=0\npriority=0\nticks=0\n") ≡ whole (GetSegment 1 65 256 No 0 0 0 ∷ [])
unfolding read_all read_from read_call find_row key_at numbers_from field_at line_from starts number_of number_after
aligned = refl

pub aligned_before : read_all (bytes "call=get\nid=1\nalign=256\nsize=65\nwait=0\ntask=0\npriority=0\nticks=0\n") ≡ record { calls = []; bad = Some 14 }
unfolding read_all read_from read_call find_row key_at numbers_from field_at line_from starts number_of number_after
aligned_before = refl

pub not_aligned : read_all (bytes "call=get\nid=1\nsize=65\nwait=0\ntask=0\npriority=0\nticks=0\n") ≡ record { calls = []; bad = Some 22 }
unfolding read_all read_from read_call find_row key_at numbers_from field_at line_from starts number_of number_after
not_aligned = refl

-- an empty script has no calls
pub empty : read_all [] ≡ whole []
unfolding read_all read_from read_call
empty = refl

-- the largest number, and one above it
pub largest : read_all (bytes "call=info\nid=4294967295\n") ≡ whole (RegionInformation 4294967295 ∷ [])
unfolding read_all read_from read_call find_row key_at numbers_from field_at line_from starts number_of number_after
largest = refl

pub too_large : read_all (bytes "call=info\nid=4294967296\n") ≡ record { calls = []; bad = Some 10 }
unfolding read_all read_from read_call find_row key_at numbers_from field_at line_from starts number_of number_after
too_large = refl

-- a zero alone is a number; a leading zero is bad, and so is a number with no digit
pub zero_alone : read_all (bytes "call=return\nid=0\naddress=0\n") ≡ whole (ReturnSegment 0 0 ∷ [])
unfolding read_all read_from read_call find_row key_at numbers_from field_at line_from starts number_of number_after
zero_alone = refl

pub leading_zero : read_all (bytes "call=tick\ncall=info\nid=01\n") ≡ record { calls = Tick ∷ []; bad = Some 20 }
unfolding read_all read_from read_call find_row key_at numbers_from field_at line_from starts number_of number_after
leading_zero = refl

pub no_digit : read_all (bytes "call=info\nid=\n") ≡ record { calls = []; bad = Some 10 }
unfolding read_all read_from read_call find_row key_at numbers_from field_at line_from starts number_of number_after
no_digit = refl

-- an order by halves; an order other than 0 to 3, keys in another order, a line that does not end, and a missing line
pub order_three : read_all (bytes "call=create-region\nname=1\nstart=4\nlength=1020\npage=64\norder=3\n") ≡ whole (CreateRegion 1 4 1020 64 HalvesPriority ∷ [])
unfolding read_all read_from read_call find_row key_at numbers_from field_at line_from starts number_of number_after
order_three = refl

pub order_four : read_all (bytes "call=create-region\nname=1\nstart=4\nlength=1020\npage=64\norder=4\n") ≡ record { calls = []; bad = Some 54 }
unfolding read_all read_from read_call find_row key_at numbers_from field_at line_from starts number_of number_after
order_four = refl

pub other_key : read_all (bytes "call=return\naddress=0\nid=0\n") ≡ record { calls = []; bad = Some 12 }
unfolding read_all read_from read_call find_row key_at numbers_from field_at line_from starts number_of number_after
other_key = refl

pub no_newline : read_all (bytes "call=tick") ≡ record { calls = []; bad = Some 0 }
unfolding read_all read_from read_call find_row key_at numbers_from field_at line_from starts number_of number_after
no_newline = refl

pub missing : read_all (bytes "call=tick\ncall=info\n") ≡ record { calls = Tick ∷ []; bad = Some 20 }
unfolding read_all read_from read_call find_row key_at numbers_from field_at line_from starts number_of number_after
missing = refl

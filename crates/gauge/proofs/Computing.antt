-- All that a worked reading computes with: the operations on floats, and the definitions. An example unfolds these names. Assumes nothing.
use lib.Count.{count_trailing_zeros}
use lib.Ieee.{span, climb, size, odd, units, round, neg, sum, add, sub, mul, div, lt, eq, le, of_int, is_nan, of_fields, of_bits, to_bits}
use Rattle.gauge.specs.Gauge.{wrong, reading}

unfoldable pub floats : Unit {0}
unfolding count_trailing_zeros span climb size odd units round neg sum add sub mul div lt eq le of_int is_nan of_fields of_bits to_bits
floats = tt

unfoldable pub readings : Unit {0}
unfolding wrong reading
readings = tt

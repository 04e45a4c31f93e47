-- Powers of two: rule 3.5.
use Rattle.std.specs.Prelude.{ℕ, zero, suc, ◌^◌, Bool, cond, leb, eqb}

-- the least number from j on, of n that are tried, to whose power two is k or more
unfoldable pub level_from : ℕ → ℕ → ℕ → ℕ
level_from zero j k = j
level_from (suc n) j k = cond (leb k (2 ^ j)) j (level_from n (suc j) k)

-- how often 1 is doubled to reach k
abbrev pub level : ℕ → ℕ
level k = level_from k 0 k

-- the least power of two at or above k
abbrev pub power_up : ℕ → ℕ
power_up k = 2 ^ level k

abbrev pub is_power : ℕ → Bool
is_power k = eqb (power_up k) k

-- Roundings to whole multiples: rules 3.1 and 3.2.
use Rattle.std.specs.Prelude.{ℕ, zero, suc, ◌+◌, ◌-◌, ◌*◌, ◌/◌, ◌%◌, ◌≡◌}

-- "Regions: Layout", "Page size": the first multiple of p at or above x, where p is not 0
abbrev pub round_up : ℕ → ℕ → ℕ
round_up x p = (x + (p - 1)) / p * p

-- "Regions: Get": bytes are rounded up to whole pages. How many pages of `page` bytes hold `bytes` bytes
abbrev pub pages_for : ℕ → ℕ → ℕ
pages_for bytes page = (bytes + (page - 1)) / page

-- Get's alignment: the first multiple of n at or above x; x itself where n is 0, since any number will do
abbrev pub align_up : ℕ → ℕ → ℕ
align_up zero x = x
align_up (suc n) x = round_up x (suc n)

-- such a number: a multiple of n, or any where n is 0
abbrev pub OnEvery : ℕ → ℕ → Type 0
OnEvery zero x = Unit {0}
OnEvery (suc n) x = x % suc n ≡ 0

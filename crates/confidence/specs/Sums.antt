-- The sums of the cycles of the units measured.
use Rattle.std.specs.Prelude.{◌≡◌, ◌+◌, ◌*◌, ◌^◌, ◌<◌, ◌≤◌, ℕ, List, length, sum, sum_by}
use Rattle.confidence.specs.declared.sums.Sums.{Sums}

abbrev pub square : ℕ → ℕ
square x = x * x

-- how many units there are, the sum of their cycles, and the sum of the squares
unfoldable pub sums_of : List ℕ → Sums
sums_of cycles = record { n = length cycles; s1 = sum cycles; s2 = sum_by square cycles }

-- the sums with one more unit of these cycles
abbrev pub with_cycles : Sums → ℕ → Sums
with_cycles sums cycles =
    record { n = sums.n + 1; s1 = sums.s1 + cycles; s2 = sums.s2 + square cycles }

-- a unit takes at least one cycle, and fewer than 2 ^ 26
abbrev pub IsCycles : ℕ → Type 0
IsCycles cycles = (0 < cycles) × (cycles < 2 ^ 26)

-- the sums are all 0, or stand within the bounds of sums of 1 to 65,536 units
pub record IsBounded (sums : Sums) : Type 0 where
  pub none_s1 : sums.n ≡ 0 → sums.s1 ≡ 0
  pub none_s2 : sums.n ≡ 0 → sums.s2 ≡ 0
  pub units : sums.n ≤ 65536
  pub s1_least : sums.n ≤ sums.s1
  pub s1_most : 0 < sums.n → sums.s1 < sums.n * 2 ^ 26
  pub s2_most : 0 < sums.n → sums.s2 < sums.n * 2 ^ 52
  pub squares : square sums.s1 ≤ sums.n * sums.s2

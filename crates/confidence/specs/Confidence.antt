-- The test of confidence: after the sample size of SMARTS, with the sample variance, multiplied
-- out to whole numbers, so that nothing is rounded.
use Rattle.std.specs.Prelude.{◌-◌, ◌*◌, ◌/◌, ◌≤◌, ℕ, Bool, ◌&&◌, nat_le, nat_lt, if◌then◌else◌, Option, None}
use Rattle.smarts_base.specs.Least.{least_below}
use Rattle.confidence.specs.declared.sums.Sums.{Sums}
use Rattle.confidence.specs.declared.verdict.Test.{Test}
use Rattle.confidence.specs.Sums.{square}

-- the numbers of a test are in their ranges
pub record IsInRange (test : Test) : Type 0 where
  pub min_least : 2 ≤ test.min
  pub min_most : test.min ≤ 65536
  pub z_least : 1 ≤ test.z
  pub z_most : test.z ≤ 4000
  pub error_least : 1 ≤ test.error
  pub error_most : test.error ≤ 5000

-- z thousandths of the standard deviation of the mean are at most error ten-thousandths of the
-- mean: (z / 1000)² · (n · s2 - s1²) / (n² · (n - 1)) ≤ (error / 10000)² · (s1 / n)²
abbrev pub is_within : Sums → ℕ → ℕ → Bool
is_within sums z error =
    nat_le
    (square z * 100 * (sums.n * sums.s2 - square sums.s1))
    (square error * (sums.n - 1) * square sums.s1)

-- there are enough units, and the interval is narrow enough
unfoldable pub is_confident : Sums → Test → Bool
is_confident sums test = nat_le test.min sums.n && is_within sums test.z test.error

-- the least error up to 9999 that the interval is within; one unit has no variance
unfoldable pub least_error_of : Sums → ℕ → Option ℕ
least_error_of sums z =
    if nat_lt sums.n 2 then None else least_below 10000 (is_within sums z)

-- ten thousand times the cycles per instruction, rounded down
unfoldable pub cpi4_of : Sums → ℕ → ℕ
cpi4_of sums unit = sums.s1 * 10000 / (sums.n * unit)

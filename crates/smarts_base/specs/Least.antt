-- The least number below a bound that passes a test, and what holds of it.
use Rattle.std.specs.Prelude.{◌≡◌, ◌<◌, ℕ, Bool, true, false, if◌then◌else◌, Option, Some, None, zero, suc}
use Rattle.std.specs.Option.{option_or}

-- the least number below the bound that passes the test
unfoldable pub least_below : ℕ → (ℕ → Bool) → Option ℕ
least_below zero test = None
least_below (suc bound) test =
    option_or (least_below bound test) (if test bound then Some bound else None)

-- no number below the bound passes the test
abbrev pub NonePasses : ℕ → (ℕ → Bool) → Type 0
NonePasses bound test = (k : ℕ) → k < bound → test k ≡ false

-- the number is below the bound and passes the test, and none below it does
pub record IsLeast (bound : ℕ) (test : ℕ → Bool) (m : ℕ) : Type 0 where
  pub below : m < bound
  pub passes : test m ≡ true
  pub first : NonePasses m test

-- the number found, if any, is the least that passes; where there is none, none passes
abbrev pub IsLeastIfAny : ℕ → (ℕ → Bool) → Option ℕ → Type 0
IsLeastIfAny bound test (Some m) = IsLeast bound test m
IsLeastIfAny bound test None = NonePasses bound test

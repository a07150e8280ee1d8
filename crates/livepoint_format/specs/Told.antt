-- What is kept of pairs while points are gone through.
use Rattle.std.specs.Prelude.{◌≡◌, ℕ, zero, suc, nat_le, Option, Some, None, List, filter}
use Rattle.std.specs.Map.{keys_of, lookup}
use Rattle.live_points.specs.Sharing.{same_pair}

-- what is told of a pair that so many points have: one, or two for all greater numbers
abbrev pub told : ℕ → Option ℕ
told zero = None
told (suc zero) = Some 1
told (suc (suc more)) = Some 2

-- this is told of each pair
abbrev pub AreTold : (ℕ × ℕ → ℕ) → List ((ℕ × ℕ) × ℕ) → Type 0
AreTold held entries = (pair : ℕ × ℕ) → lookup (same_pair pair) entries ≡ told (held pair)

-- the pairs of which at least so much is told
abbrev pub told_from : ℕ → List ((ℕ × ℕ) × ℕ) → List (ℕ × ℕ)
told_from least entries = keys_of (filter (λ (e : (ℕ × ℕ) × ℕ). nat_le least e.1) entries)

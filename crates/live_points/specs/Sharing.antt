-- The pairs that several live-points share.
use Rattle.std.specs.Prelude.{◌≡◌, ◌≤◌, ◌%◌, ℕ, ◌==◌, ◌&&◌, ◌||◌, ◌↔◌, nat_lt, Bool, true, Option, Some, None, List, [], count_by}
use Rattle.std.specs.List.{list_any}
use Rattle.live_words.specs.Follow.{last_of, Follow}
use Rattle.live_words.specs.Words.{IsPair}
use Rattle.live_points.specs.declared.point.LivePoint.{LivePoint}

abbrev pub same_pair : ℕ × ℕ → ℕ × ℕ → Bool
same_pair pair other = (pair.0 == other.0) && (pair.1 == other.1)

abbrev pub stands_in : ℕ × ℕ → List (ℕ × ℕ) → Bool
stands_in pair pairs = list_any (same_pair pair) pairs

-- how many points have the pair among their words
abbrev pub holders : List LivePoint → ℕ × ℕ → ℕ
holders points pair = count_by (λ point. stands_in pair point.words) points

-- by address, and then by value
abbrev pub is_later : ℕ × ℕ → ℕ × ℕ → Bool
is_later pair before = nat_lt before.0 pair.0 || ((before.0 == pair.0) && nat_lt before.1 pair.1)

abbrev pub is_behind : Option (ℕ × ℕ) → ℕ × ℕ → Bool
is_behind None pair = true
is_behind (Some before) pair = is_later pair before

-- its address is a multiple of 4, and it comes behind the last one
abbrev pub ranks : List (ℕ × ℕ) → ℕ × ℕ → Bool
ranks before pair = (pair.0 % 4 == 0) && is_behind (last_of before) pair

-- exactly the pairs that stand in the words of at least two points, in order
pub record IsSharing (points : List LivePoint) (shared : List (ℕ × ℕ)) : Type 0 where
  pub order : Follow (IsPair ranks) [] shared
  pub exact : (pair : ℕ × ℕ) → (stands_in pair shared ≡ true) ↔ (2 ≤ holders points pair)

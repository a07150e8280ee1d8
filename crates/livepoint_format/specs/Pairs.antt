-- Pairs as a table, and the first of them that can't stand in its place.
use Rattle.std.specs.Prelude.{ℕ, Bool, not, Option, Result, List, length, take, slice_index_or}
use Rattle.smarts_base.specs.Least.{least_below}
use Rattle.live_words.specs.declared.words.BadPair.{BadPair}
use Rattle.live_words.specs.Words.{unless_misplaced}
use Rattle.live_points.specs.Sharing.{ranks}

-- the address of the pair at this place isn't a multiple of 4, or the pair isn't above the one before
abbrev pub is_unranked : List (ℕ × ℕ) → ℕ → Bool
is_unranked pairs i = not (ranks (take i pairs) (slice_index_or pairs i (0, 0)))

abbrev pub first_unranked : List (ℕ × ℕ) → Option ℕ
first_unranked pairs = least_below (length pairs) (is_unranked pairs)

-- the pairs as a table, or the first that can't stand in its place
abbrev pub table_or_fault : List (ℕ × ℕ) → Result (List (ℕ × ℕ)) BadPair
table_or_fault pairs = unless_misplaced (first_unranked pairs) pairs

-- Words of a memory, each with its address, by rising address.
use Rattle.std.specs.Prelude.{◌≡◌, ℕ, ◌%◌, ◌^◌, ◌<◌, ◌==◌, ◌&&◌, Bool, true, not, nat_lt, Option, Some, None, Result, Ok, Err, List, [], length, take, slice_index_or}
use Rattle.std.specs.FinMap as map
use Rattle.std.specs.Ordering.{nat_cmp}
use Rattle.smarts_base.specs.Least.{least_below}
use Rattle.rv_exec.specs.Memory.{Words}
use Rattle.live_words.specs.declared.words.BadPair.{BadPair}
use Rattle.live_words.specs.Follow.{last_of, Follow}

-- the address is above that of the pair, if there is one
abbrev pub is_above : Option (ℕ × ℕ) → ℕ → Bool
is_above None addr = true
is_above (Some pair) addr = nat_lt pair.0 addr

-- its address is a multiple of 4, and above the last one
abbrev pub rises : List (ℕ × ℕ) → ℕ × ℕ → Bool
rises before pair = (pair.0 % 4 == 0) && is_above (last_of before) pair.0

-- a pair of an address and a word that passes a test behind those before it
pub record IsPair (test : List (ℕ × ℕ) → ℕ × ℕ → Bool) (before : List (ℕ × ℕ)) (pair : ℕ × ℕ) : Type 0 where
  pub addr : pair.0 < 2 ^ 32
  pub value : pair.1 < 2 ^ 32
  pub passes : test before pair ≡ true

-- words of a memory with their addresses
abbrev pub AreWords : List (ℕ × ℕ) → Type 0
AreWords pairs = Follow (IsPair rises) [] pairs

-- the address of the pair at this place isn't a multiple of 4, or isn't above the one before
abbrev pub is_misplaced : List (ℕ × ℕ) → ℕ → Bool
is_misplaced pairs i = not (rises (take i pairs) (slice_index_or pairs i (0, 0)))

abbrev pub first_misplaced : List (ℕ × ℕ) → Option ℕ
first_misplaced pairs = least_below (length pairs) (is_misplaced pairs)

abbrev pub unless_misplaced : Option ℕ → List (ℕ × ℕ) → Result (List (ℕ × ℕ)) BadPair
unless_misplaced None pairs = Ok pairs
unless_misplaced (Some index) pairs = Err (record { index = index })

-- the pairs as words, or the first that is misplaced
abbrev pub words_or_fault : List (ℕ × ℕ) → Result (List (ℕ × ℕ)) BadPair
words_or_fault pairs = unless_misplaced (first_misplaced pairs) pairs

-- the memory that holds the words of these pairs alone, of two with one address the first
abbrev pub memory_of : List (ℕ × ℕ) → Words
memory_of pairs = map.from_entries {R = nat_cmp} pairs

-- the words of a memory by rising address
abbrev pub pairs_of : Words → List (ℕ × ℕ)
pairs_of words = map.entries words

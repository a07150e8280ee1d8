-- Words with their addresses, each in one number of 64 bits.
use Rattle.std.specs.Prelude.{ℕ, ◌+◌, ◌*◌, ◌/◌, ◌%◌, ◌^◌, List, map}
use Rattle.rv_exec.specs.Memory.{Words}
use Rattle.live_words.specs.Words.{AreWords, memory_of}

-- the address in the upper half, the word in the lower one
abbrev pub packed_pair : ℕ × ℕ → ℕ
packed_pair pair = pair.0 * 2 ^ 32 + pair.1

abbrev pub pair_of : ℕ → ℕ × ℕ
pair_of word = (word / 2 ^ 32, word % 2 ^ 32)

-- the upper halves are multiples of 4 and rise
abbrev pub ArePacked : List ℕ → Type 0
ArePacked packed = AreWords (map pair_of packed)

-- the memory that holds these pairs alone
abbrev pub held_words : List ℕ → Words
held_words packed = memory_of (map pair_of packed)

-- What a memory means: the words that it holds, and which write buffers it lets pass.
use Rattle.std.specs.Prelude.{◌⊎◌, ◌<◌, ◌≤◌, ℕ, ◌+◌, ◌^◌, Bool, true, ◌||◌, ◌&&◌, ◌==◌, nat_le, Option}
use Rattle.std.specs.FinMap as map
use Rattle.std.specs.Ordering.{nat_cmp}

-- from word addresses, which are multiples of 4, to words
abbrev pub Words : Type 0
Words = map.FinMap nat_cmp ℕ

abbrev pub word_at : Words → ℕ → Option ℕ
word_at words addr = map.get words addr

abbrev pub stored : Words → ℕ → ℕ → Words
stored words addr value = map.insert words addr value

-- every write buffer passes, or those that lie in the memory of a whole program
pub data Buffers : Type 0 where
  Every : Buffers
  Mapped : (low heap_low : ℕ) → Buffers

-- the bytes lie from first to end, exclusive
abbrev pub lies_within : ℕ → ℕ → ℕ → ℕ → Bool
lies_within first end addr len = nat_le first addr && nat_le (addr + len) end

-- a whole program has its segments with a heap of 64 MiB behind them, and a stack
abbrev pub passes : Buffers → ℕ → ℕ → Bool
passes Every addr len = true
passes (Mapped low heap_low) addr len =
    (len == 0) || (lies_within low (heap_low + 2 ^ 26) addr len
    || lies_within 0x7FF00000 0x80000000 addr len)

-- the byte at the address lies in the memory of a whole program
abbrev pub IsMapped : ℕ → ℕ → ℕ → Type 0
IsMapped low heap_low addr =
    ((low ≤ addr) × (addr < heap_low + 2 ^ 26)) ⊎ ((0x7FF00000 ≤ addr) × (addr < 0x80000000))

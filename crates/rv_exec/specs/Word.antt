-- Words: the numbers below 2^32 that registers and memory hold.
use Rattle.std.specs.Prelude.{ℕ, ◌+◌, ◌-◌, ◌%◌, ◌^◌, ℤ, pos, negsuc, ◌+ℤ◌}
use Rattle.std.specs.Int.{cast_signed, w32}

-- the word that a number is modulo 2^32
abbrev pub word : ℤ → ℕ
word (pos n) = n % 2 ^ 32
word (negsuc n) = 2 ^ 32 - 1 - n % 2 ^ 32

-- the number that a word stands for in two's complement
abbrev pub signed : ℕ → ℤ
signed w = cast_signed w32 w

-- the address so far from a base
abbrev pub offset_by : ℕ → ℤ → ℕ
offset_by base offset = word (pos base +ℤ offset)

-- the address of the instruction behind the one at pc
abbrev pub following : ℕ → ℕ
following pc = (pc + 4) % 2 ^ 32

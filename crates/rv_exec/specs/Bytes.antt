-- The bytes and halves of a word, which is little-endian.
use Rattle.std.specs.Prelude.{ℕ, ◌+◌, ◌*◌, ◌/◌, ◌%◌, ◌^◌, Bool, true, false, slice_index, slice_set}
use Rattle.std.specs.Int.{cast_signed, to_le_bytes, from_le_bytes, w8, w16, w32}
use Rattle.rv_exec.specs.Word.{word}
use Rattle.rv_exec.specs.declared.action.Size.{Size}
use Rattle.rv_exec.specs.declared.action.Size.TheVariants.{Byte, Half, Word}

-- the byte of the word that stands at the address
unfoldable pub byte_in : ℕ → ℕ → ℕ
byte_in w addr = slice_index (to_le_bytes w32 w) (addr % 4)

unfoldable pub half_in : ℕ → ℕ → ℕ
half_in w addr = byte_in w addr + byte_in w (addr + 1) * 2 ^ 8

-- the word with the low byte of the value at the address
unfoldable pub with_byte : ℕ → ℕ → ℕ → ℕ
with_byte w addr value =
    from_le_bytes w32 (slice_set (to_le_bytes w32 w) (addr % 4) (value % 2 ^ 8))

-- the word with the low two bytes of the value at the address
unfoldable pub with_half : ℕ → ℕ → ℕ → ℕ
with_half w addr value = with_byte (with_byte w addr value) (addr + 1) (value / 2 ^ 8)

-- how many bytes a load or store moves
abbrev pub size_of : Size → ℕ
size_of Byte = 1
size_of Half = 2
size_of Word = 4

-- what a load gives of the word at the address: with the sign extended, or with zeros
abbrev pub loaded : Size → Bool → ℕ → ℕ → ℕ
loaded Byte true w addr = word (cast_signed w8 (byte_in w addr))
loaded Byte false w addr = byte_in w addr
loaded Half true w addr = word (cast_signed w16 (half_in w addr))
loaded Half false w addr = half_in w addr
loaded Word signed w addr = w

-- the word at the address after a store
abbrev pub with_part : Size → ℕ → ℕ → ℕ → ℕ
with_part Byte w addr value = with_byte w addr value
with_part Half w addr value = with_half w addr value
with_part Word w addr value = value

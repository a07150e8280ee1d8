-- What a program starts from: the words of memory, as the segments of its file give them.
use Rattle.std.specs.Prelude.{◌≡◌, ℕ, ◌+◌, ◌-◌, ◌*◌, ◌/◌, ◌%◌, ◌<◌, ◌≤◌, ◌==◌, nat_le, nat_lt, Bool, ◌&&◌, if◌then◌else◌, List, map, length, slice_index, Option, Some, None, Result, Ok, Err, find}
use Rattle.std.specs.Int.{w32, from_le_bytes}
use Rattle.std.specs.List.{range_with_len}
use Rattle.elf_image.specs.declared.program_header.ProgramHeader.{ProgramHeader}
use Rattle.elf_image.specs.declared.fault.ImageFault.{ImageFault}
use Rattle.elf_image.specs.Fields.{entry_of}
use Rattle.elf_image.specs.Segments.{segments_of, fills}
use Rattle.elf_image.specs.Span.{low_of, heap_low_of}
use Rattle.elf_image.specs.Rules.{rules, verdict}

-- where the program starts, the addresses from `low` to `heap_low` (exclusive), and their words
pub record ImageValue : Type 0 where
  pub entry : ℕ
  pub low : ℕ
  pub heap_low : ℕ
  pub words : List ℕ

-- what holds of every image
pub record IsImage (image : ImageValue) : Type 0 where
  pub entry : image.entry % 4 ≡ 0
  pub above : image.low ≤ image.entry
  pub below : image.entry < image.heap_low
  pub low : image.low % 4096 ≡ 0
  pub heap_low : image.heap_low % 4096 ≡ 0
  pub highest : image.heap_low ≤ 0x70000000
  pub span : image.heap_low - image.low ≤ 67_108_864
  pub words : 4 * length image.words ≡ image.heap_low - image.low

-- the address is that of one of the image's words
abbrev pub is_word_address : ImageValue → ℕ → Bool
is_word_address image addr = addr % 4 == 0 && nat_le image.low addr && nat_lt addr image.heap_low

-- the word at an address, where the image has one there
abbrev pub word_in : ImageValue → ℕ → Option ℕ
word_in image addr =
    if is_word_address image addr then Some (slice_index image.words ((addr - image.low) / 4)) else None

-- the byte that a segment's part of the file has for an address; 0 where there is no such segment
abbrev pub byte_of : List ℕ → Option ProgramHeader → ℕ → ℕ
byte_of file None addr = 0
byte_of file (Some segment) addr = slice_index file (segment.offset + (addr - segment.address))

-- the byte at an address, as the segments that the file fills give it
unfoldable pub byte_at : List ℕ → List ProgramHeader → ℕ → ℕ
byte_at file segments addr = byte_of file (find (λ s. fills s addr) segments) addr

-- the word of the four bytes from an address on, the lowest first
abbrev pub word_from : (ℕ → ℕ) → ℕ → ℕ
word_from byte addr = from_le_bytes w32 (map byte (range_with_len addr 4))

-- the words from one address to another (exclusive)
abbrev pub words_from : (ℕ → ℕ) → ℕ → ℕ → List ℕ
words_from byte low high = map (λ k. word_from byte (low + 4 * k)) (range_with_len 0 ((high - low) / 4))

-- the image of a file that keeps all rules
unfoldable pub loaded : List ℕ → ImageValue
loaded file =
    let segments = segments_of file in
    let low = low_of segments in
    let heap_low = heap_low_of segments in
    record {
      entry = entry_of file;
      low = low;
      heap_low = heap_low;
      words = words_from (byte_at file segments) low heap_low;
    }

-- the value, where the verdict lets it pass
abbrev pub unless : {A : Type 0} → Result (Unit {0}) ImageFault → A → Result A ImageFault
unless (Ok _) value = Ok value
unless (Err fault) value = Err fault

-- the image of a file that keeps all rules, or the fault of the first rule that it breaks
unfoldable pub image_of : List ℕ → Result ImageValue ImageFault
image_of file = unless (verdict file rules) (loaded file)

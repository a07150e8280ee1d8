-- The numbers that stand in an ELF file, as far as a loader reads them. All are little-endian.
-- System V ABI, "Object Files": "ELF Header" and "Program Header".
use Rattle.std.specs.Prelude.{ℕ, ◌+◌, ◌*◌, ◌==◌, ◌&&◌, ◌||◌, nat_le, Bool, List, map, drop, length}
use Rattle.std.specs.Int.{w16, w32, from_le_bytes}
use Rattle.std.specs.List.{range_with_len}
use Rattle.elf_image.specs.declared.program_header.ProgramHeader.{ProgramHeader}

-- the numbers of two and of four bytes at a place
abbrev pub half_at : List ℕ → ℕ → ℕ
half_at file place = from_le_bytes w16 (drop place file)

abbrev pub word_at : List ℕ → ℕ → ℕ
word_at file place = from_le_bytes w32 (drop place file)

-- e_type, e_machine, e_entry and e_flags
abbrev pub file_type : List ℕ → ℕ
file_type file = half_at file 16

abbrev pub machine : List ℕ → ℕ
machine file = half_at file 18

abbrev pub entry_of : List ℕ → ℕ
entry_of file = word_at file 24

abbrev pub flags : List ℕ → ℕ
flags file = word_at file 36

-- where the program headers are, what the file says of their size, and how many there are: e_phoff,
-- e_phentsize and e_phnum
abbrev pub headers_place : List ℕ → ℕ
headers_place file = word_at file 28

abbrev pub header_size : List ℕ → ℕ
header_size file = half_at file 42

abbrev pub header_count : List ℕ → ℕ
header_count file = half_at file 44

-- the table of program headers, where there are any, has rows of 32 bytes and lies in the file
abbrev pub has_headers : List ℕ → Bool
has_headers file = header_count file == 0
    || header_size file == 32 && nat_le (headers_place file + 32 * header_count file) (length file)

-- p_type, p_offset, p_vaddr, p_filesz and p_memsz of the program header at a place
abbrev pub program_header_at : List ℕ → ℕ → ProgramHeader
program_header_at file place = record {
  kind = word_at file place;
  offset = word_at file (place + 4);
  address = word_at file (place + 8);
  file_size = word_at file (place + 16);
  memory_size = word_at file (place + 20);
}

-- the program headers in the order of the file
unfoldable pub program_headers : List ℕ → List ProgramHeader
program_headers file =
    map (λ i. program_header_at file (headers_place file + 32 * i))
    (range_with_len 0 (header_count file))

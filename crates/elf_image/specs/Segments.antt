-- Loaded segments, and the addresses and bytes of the file that they hold.
use Rattle.std.specs.Prelude.{ℕ, ◌+◌, ◌%◌, ◌==◌, nat_lt, nat_le, Bool, false, not, ◌&&◌, ◌||◌, List, [], ◌∷◌, filter}
use Rattle.std.specs.List.{range_with_len, list_any}
use Rattle.elf_image.specs.declared.program_header.ProgramHeader.{ProgramHeader}
use Rattle.elf_image.specs.Fields.{program_headers}

-- PT_LOAD, with a size in memory that isn't 0
abbrev pub is_loaded : ProgramHeader → Bool
is_loaded header = header.kind == 1 && not (header.memory_size == 0)

-- the loaded segments of a file, in its order
unfoldable pub segments_of : List ℕ → List ProgramHeader
segments_of file = filter is_loaded (program_headers file)

-- the first place of the file, and the first address of memory, that is past the segment
abbrev pub file_end : ProgramHeader → ℕ
file_end segment = segment.offset + segment.file_size

abbrev pub memory_end : ProgramHeader → ℕ
memory_end segment = segment.address + segment.memory_size

-- the address is one of the segment's
abbrev pub holds : ProgramHeader → ℕ → Bool
holds segment addr = nat_le segment.address addr && nat_lt addr (memory_end segment)

-- the address is one of those that the file has a byte for
abbrev pub fills : ProgramHeader → ℕ → Bool
fills segment addr = nat_le segment.address addr && nat_lt addr (segment.address + segment.file_size)

-- some byte address of the one segment is one of the other's
abbrev pub shares_address : ProgramHeader → ProgramHeader → Bool
shares_address one other = list_any (holds other) (range_with_len one.address one.memory_size)

-- some two of the segments share an address
unfoldable pub overlap : List ProgramHeader → Bool
overlap [] = false
overlap (segment ∷ rest) = list_any (shares_address segment) rest || overlap rest

-- the bytes of the segment pass the end of a file of this length
abbrev pub passes_file : ℕ → ProgramHeader → Bool
passes_file len segment = nat_lt 0 segment.file_size && nat_lt len (file_end segment)

-- the segment has more bytes in the file than in memory, or passes the last address for segments
abbrev pub is_misplaced : ProgramHeader → Bool
is_misplaced segment =
    nat_lt segment.memory_size segment.file_size || nat_lt 0x70000000 (memory_end segment)

-- an instruction can stand at the address: it is a multiple of 4 and in one of the segments
abbrev pub is_entry : List ProgramHeader → ℕ → Bool
is_entry segments addr = addr % 4 == 0 && list_any (λ s. holds s addr) segments

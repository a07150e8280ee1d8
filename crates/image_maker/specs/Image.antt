-- The file of the generated program: an ELF32 file for RISC-V with two program headers. All numbers
-- are little-endian. System V ABI, "Object Files": "ELF Header" and "Program Header".
use Rattle.std.specs.Prelude.{ℕ, List, [], ◌∷◌, ◌++◌, map}
use Rattle.std.specs.Int.{w16, w32, to_le_bytes}
use Rattle.std.specs.List.{flat_map}
use Rattle.rv_isa.specs.Encoding.{word_of}
use Rattle.image_maker.specs.Program.{program}

-- the bytes of numbers of two and of four bytes
abbrev pub halves : List ℕ → List ℕ
halves numbers = flat_map (to_le_bytes w16) numbers

unfoldable pub words : List ℕ → List ℕ
words numbers = flat_map (to_le_bytes w32) numbers

-- ELFMAG, ELFCLASS32, ELFDATA2LSB and EV_CURRENT, then zeros
abbrev pub identification : List ℕ
identification =
    0x7F ∷ 0x45 ∷ 0x4C ∷ 0x46 ∷ 1 ∷ 1 ∷ 1 ∷ 0 ∷ 0 ∷ 0 ∷ 0 ∷ 0 ∷ 0 ∷ 0 ∷ 0 ∷ 0 ∷ []

-- e_type (ET_EXEC) and e_machine (EM_RISCV); e_version, e_entry, e_phoff, e_shoff and e_flags;
-- e_ehsize, e_phentsize and e_phnum, and e_shentsize, e_shnum and e_shstrndx
unfoldable pub file_header : List ℕ
file_header =
    identification ++ halves (2 ∷ 243 ∷ []) ++ words (1 ∷ 0x00010074 ∷ 52 ∷ 0 ∷ 0 ∷ [])
    ++ halves (52 ∷ 32 ∷ 2 ∷ 0 ∷ 0 ∷ 0 ∷ [])

-- p_type (PT_LOAD), p_offset, p_vaddr, p_paddr, p_filesz, p_memsz, p_flags and p_align: the
-- program, readable and executable, and 64 KiB of zeros, readable and writable
abbrev pub program_headers : List ℕ
program_headers =
    1 ∷ 116 ∷ 0x00010074 ∷ 0x00010074 ∷ 1064 ∷ 1064 ∷ 5 ∷ 4
    ∷ 1 ∷ 0 ∷ 0x00020000 ∷ 0x00020000 ∷ 0 ∷ 65536 ∷ 6 ∷ 4 ∷ []

-- the file of the program whose loop turns `size` times
unfoldable pub image_file : ℕ → ℕ → List ℕ
image_file size seed =
    file_header ++ words program_headers ++ words (map word_of (program size seed))

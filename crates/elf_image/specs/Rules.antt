-- The rules that a file must keep to be an image, and the order in which they are judged.
use Rattle.std.specs.Prelude.{ℕ, ◌-◌, ◌%◌, ◌==◌, nat_lt, nat_eq, Bool, not, ◌&&◌, ◌||◌, List, [], ◌∷◌, ◌++◌, length, slice_index, Option, Some, None, Result, Ok, Err, find}
use Rattle.std.specs.List.{list_any, starts_with}
use Rattle.elf_image.specs.declared.program_header.ProgramHeader.{ProgramHeader}
use Rattle.elf_image.specs.declared.fault.ImageFault.{ImageFault}
use Rattle.elf_image.specs.declared.fault.ImageFault.TheVariants as faults
use Rattle.elf_image.specs.Fields.{file_type, machine, flags, entry_of, has_headers, program_headers}
use Rattle.elf_image.specs.Segments.{segments_of, passes_file, is_misplaced, is_entry, overlap}
use Rattle.elf_image.specs.Span.{low_of, heap_low_of}

pub data Rule : Type 0 where
  FileSize : Rule
  Identification : Rule
  Machine : Rule
  FileType : Rule
  Flags : Rule
  HeaderTable : Rule
  Interpreter : Rule
  FileRange : Rule
  MemoryRange : Rule
  Apart : Rule
  Span : Rule
  Entry : Rule

-- the first byte is 0x7F, and `ELF` follows
abbrev pub magic : List ℕ
magic = 0x7F ∷ 0x45 ∷ 0x4C ∷ 0x46 ∷ []

-- ELFCLASS32, ELFDATA2LSB and EM_RISCV
abbrev pub is_riscv32 : List ℕ → Bool
is_riscv32 file = slice_index file 4 == 1 && slice_index file 5 == 1 && machine file == 243

-- PT_INTERP
abbrev pub names_interpreter : ProgramHeader → Bool
names_interpreter header = header.kind == 3

-- the file breaks the rule
unfoldable pub breaks : List ℕ → Rule → Bool
breaks file FileSize = nat_lt 67_108_864 (length file)
breaks file Identification = nat_lt (length file) 52 || not (starts_with nat_eq file magic)
breaks file Machine = not (is_riscv32 file)
breaks file FileType = not (file_type file == 2)
breaks file Flags = flags file % 2 == 1
breaks file HeaderTable = not (has_headers file)
breaks file Interpreter = list_any names_interpreter (program_headers file)
breaks file FileRange = list_any (passes_file (length file)) (segments_of file)
breaks file MemoryRange = list_any is_misplaced (segments_of file)
breaks file Apart = overlap (segments_of file)
breaks file Span = nat_lt 67_108_864 (heap_low_of (segments_of file) - low_of (segments_of file))
breaks file Entry = not (is_entry (segments_of file) (entry_of file))

-- the fault that a broken rule is answered with
abbrev pub fault_of : Rule → ImageFault
fault_of FileSize = faults.TooLarge
fault_of Identification = faults.NotElf
fault_of Machine = faults.NotRiscv32
fault_of FileType = faults.NotExecutable
fault_of Flags = faults.Compressed
fault_of HeaderTable = faults.HeaderOutside
fault_of Interpreter = faults.NotExecutable
fault_of FileRange = faults.SegmentOutside
fault_of MemoryRange = faults.SegmentRange
fault_of Apart = faults.Overlap
fault_of Span = faults.SpanTooLarge
fault_of Entry = faults.BadEntry

-- the rules on the file header, and those on program headers and segments, each in order
abbrev pub file_rules : List Rule
file_rules = FileSize ∷ Identification ∷ Machine ∷ FileType ∷ Flags ∷ HeaderTable ∷ []

abbrev pub segment_rules : List Rule
segment_rules = FileRange ∷ MemoryRange ∷ Apart ∷ Span ∷ Entry ∷ []

-- all rules, in the order in which they are judged
abbrev pub rules : List Rule
rules = file_rules ++ Interpreter ∷ segment_rules

-- no fault where no rule is broken
abbrev pub verdict_of : Option Rule → Result (Unit {0}) ImageFault
verdict_of None = Ok tt
verdict_of (Some rule) = Err (fault_of rule)

-- the verdict by some of the rules: the fault of the first that is broken
unfoldable pub verdict : List ℕ → List Rule → Result (Unit {0}) ImageFault
verdict file rules = verdict_of (find (breaks file) rules)

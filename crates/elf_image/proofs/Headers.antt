-- The table of program headers, read row by row.
use Rattle.std.proofs.Common.{◌≡◌, ℕ, ◌+◌, ◌*◌, List, map, refl, ◌∙◌}
use Rattle.std.specs.List.{range_with_len}
use Rattle.elf_image.specs.declared.program_header.ProgramHeader.{ProgramHeader}
use Rattle.elf_image.specs.Fields.{program_header_at, program_headers, headers_place, header_count}

-- rows that are as many as the file says, read from where it says, are its program headers
pub all_read :
    (file : List ℕ) (place count : ℕ) (headers : List ProgramHeader)
    → headers ≡ map (λ i. program_header_at file (place + 32 * i)) (range_with_len 0 count)
    → place ≡ headers_place file → count ≡ header_count file → headers ≡ program_headers file
unfolding program_headers
all_read file place count headers read there many = read ∙ rw (there, many) refl

-- The file of the generated program keeps all rules of an image.
use Rattle.std.proofs.Common.{◌≡◌, ◌+◌, ℕ, false, List, [], ◌∷◌, ◌++◌, length, Ok, refl, arith, length-append}
use Rattle.elf_image.specs.declared.program_header.ProgramHeader.{ProgramHeader}
use Rattle.elf_image.specs.Fields as fields
use Rattle.elf_image.specs.Image.{image_of, loaded}
use Rattle.elf_image.specs.Rules.{breaks, verdict}
use Rattle.elf_image.specs.Segments.{segments_of, overlap}
use Rattle.elf_image.specs.Span.{lowest_address, highest_end}
use Rattle.elf_image.proofs.Loaded.{Kept}
use Rattle.elf_image.proofs.Overlaps.{holds_low, holds_high, shares_none}
use Rattle.image_maker.specs.Image.{words, file_header, program_headers}

-- the two segments
abbrev pub text : ProgramHeader
text = record { kind = 1; offset = 116; address = 0x00010074; file_size = 1064; memory_size = 1064 }

abbrev pub space : ProgramHeader
space = record { kind = 1; offset = 0; address = 0x00020000; file_size = 0; memory_size = 65536 }

-- the headers, and what stands behind them
abbrev pub with_headers : List ℕ → List ℕ
with_headers code = file_header ++ words program_headers ++ code

pub length_with :
    (code : List ℕ) → length (with_headers code) ≡ 116 + length code
unfolding file_header words
length_with code = length-append (file_header ++ words program_headers) code

pub segments_are : (code : List ℕ) → segments_of (with_headers code) ≡ text ∷ space ∷ []
unfolding file_header words segments_of fields.program_headers
segments_are code = refl

pub entry_is : (code : List ℕ) → fields.entry_of (with_headers code) ≡ 0x00010074
unfolding file_header words
entry_is code = refl

apart : overlap (text ∷ space ∷ []) ≡ false
unfolding overlap
apart =
    let never = shares_none text space (λ x one other. absurd (omega (arith, holds_high text x one, holds_low space x other))) in
    rw never refl

pub is_kept : (code : List ℕ) → length code ≡ 1064 → Kept (with_headers code)
unfolding lowest_address highest_end
is_kept code len =
    let all : length (with_headers code) ≡ 1180 = omega (arith, length_with code) in
    record {
      in_file = rw (segments_are code, all) refl;
      placed = rw (segments_are code) refl;
      apart = rw (segments_are code) apart;
      span = rw (segments_are code) (omega arith);
      entry = rw (segments_are code, entry_is code) refl;
    }

pub is_read : (code : List ℕ) → length code ≡ 1064 → image_of (with_headers code) ≡ Ok (loaded (with_headers code))
unfolding image_of verdict breaks lowest_address highest_end file_header words fields.program_headers
is_read code len =
    let all : length (with_headers code) ≡ 1180 = omega (arith, length_with code) in
    let segments = segments_are code in
    rw (all, segments, apart) refl

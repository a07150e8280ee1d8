-- When segments can fill a part of memory with their bytes of a file.
use Rattle.std.specs.Prelude.{◌≡◌, ℕ, ◌+◌, ◌≤◌, false, List, length, All}
use Rattle.std.specs.List.{list_any}
use Rattle.elf_image.specs.declared.program_header.ProgramHeader.{ProgramHeader}
use Rattle.elf_image.specs.Segments.{memory_end, passes_file, is_misplaced, overlap}

-- all segments lie in the part, which has so many bytes from an address on, and no rule on their
-- bytes and addresses is broken
pub record CanFill (low len : ℕ) (file : List ℕ) (segments : List ProgramHeader) : Type 0 where
  pub above : All (λ s. low ≤ s.address) segments
  pub below : All (λ s. memory_end s ≤ low + len) segments
  pub in_file : list_any (passes_file (length file)) segments ≡ false
  pub placed : list_any is_misplaced segments ≡ false
  pub apart : overlap segments ≡ false

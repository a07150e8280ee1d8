-- The addresses from the lowest segment to the heap.
use Rattle.std.specs.Prelude.{ℕ, ◌+◌, ◌-◌, ◌*◌, ◌/◌, ◌^◌, min, max, List, fold}
use Rattle.elf_image.specs.declared.program_header.ProgramHeader.{ProgramHeader}
use Rattle.elf_image.specs.Segments.{memory_end}

-- the multiple of 4096 at the number or next below it, and the one at it or next above it
abbrev pub rounded_down : ℕ → ℕ
rounded_down n = n / 4096 * 4096

abbrev pub rounded_up : ℕ → ℕ
rounded_up n = (n + 4095) / 4096 * 4096

-- the lowest address of the segments; where there are none, the highest address there is
unfoldable pub lowest_address : List ProgramHeader → ℕ
lowest_address segments = fold (λ least s. min least s.address) (2 ^ 32 - 1) segments

-- the highest end of the segments; 0 where there are none
unfoldable pub highest_end : List ProgramHeader → ℕ
highest_end segments = fold (λ most s. max most (memory_end s)) 0 segments

-- the first address that is mapped, and the first past the segments' pages, where the heap begins
abbrev pub low_of : List ProgramHeader → ℕ
low_of segments = rounded_down (lowest_address segments)

abbrev pub heap_low_of : List ProgramHeader → ℕ
heap_low_of segments = rounded_up (highest_end segments)

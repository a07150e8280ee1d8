-- The lowest address and the highest end of segments.
use Rattle.std.proofs.Common.{◌≡◌, ℕ, ◌<◌, ◌≤◌, ◌^◌, min, max, false, List, [], ◌∷◌, fold, arith, length, get_or, zero, suc, ◌-◌, All}
use Rattle.std.specs.List.{list_any}
use Rattle.std.proofs.lemmas.Bool.{or_parts}
use Rattle.std.proofs.lemmas.Bool.Decides.{nat_tests}
use Rattle.elf_image.specs.declared.program_header.ProgramHeader.{ProgramHeader}
use Rattle.elf_image.specs.Segments.{memory_end, is_misplaced}
use Rattle.elf_image.specs.Span.{lowest_address, highest_end, low_of, heap_low_of}

-- a segment that is not misplaced, as numbers
pub placed_end : (s : ProgramHeader) → is_misplaced s ≡ false → memory_end s ≤ 0x70000000
placed_end s e = grind (arith, nat_tests)

pub placed_size : (s : ProgramHeader) → is_misplaced s ≡ false → s.file_size ≤ s.memory_size
placed_size s e = grind (arith, nat_tests)

highest_from :
    (segments : List ProgramHeader) (start : ℕ) → start ≤ 0x70000000
    → list_any is_misplaced segments ≡ false
    → fold (λ most s. max most (memory_end s)) start segments ≤ 0x70000000
highest_from [] start h none = h
highest_from (s ∷ rest) start h none =
    let parts = or_parts (is_misplaced s) (list_any is_misplaced rest) none in
    let end : memory_end s ≤ 0x70000000 = placed_end s parts.0 in
    highest_from rest (max start (memory_end s)) (omega (arith, end)) parts.1

pub highest_below :
    (segments : List ProgramHeader) → list_any is_misplaced segments ≡ false
    → highest_end segments ≤ 0x70000000
unfolding highest_end
highest_below segments none = highest_from segments 0 (omega arith) none

lowest_start :
    (segments : List ProgramHeader) (start : ℕ) → fold (λ least s. min least s.address) start segments ≤ start
lowest_start [] start = omega arith
lowest_start (s ∷ rest) start = omega (arith, lowest_start rest (min start s.address))

lowest_from :
    (segments : List ProgramHeader) (start k : ℕ) (d : ProgramHeader) → k < length segments
    → fold (λ least s. min least s.address) start segments ≤ (get_or segments k d).address
lowest_from [] start k d h = absurd (omega arith)
lowest_from (s ∷ rest) start zero d h = omega (arith, lowest_start rest (min start s.address))
lowest_from (s ∷ rest) start (suc k) d h = lowest_from rest (min start s.address) k d (omega arith)

highest_start :
    (segments : List ProgramHeader) (start : ℕ) → start ≤ fold (λ most s. max most (memory_end s)) start segments
highest_start [] start = omega arith
highest_start (s ∷ rest) start = omega (arith, highest_start rest (max start (memory_end s)))

highest_above :
    (segments : List ProgramHeader) (start k : ℕ) (d : ProgramHeader) → k < length segments
    → memory_end (get_or segments k d) ≤ fold (λ most s. max most (memory_end s)) start segments
highest_above [] start k d h = absurd (omega arith)
highest_above (s ∷ rest) start zero d h = omega (arith, highest_start rest (max start (memory_end s)))
highest_above (s ∷ rest) start (suc k) d h = highest_above rest (max start (memory_end s)) k d (omega arith)

-- each segment lies between where memory begins and where the heap does
pub low_below : (segments : List ProgramHeader) → All (λ s. low_of segments ≤ s.address) segments
unfolding lowest_address
low_below segments = λ k d h. let e = lowest_from segments (2 ^ 32 - 1) k d h in omega (arith, e)

pub heap_above : (segments : List ProgramHeader) → All (λ s. memory_end s ≤ heap_low_of segments) segments
unfolding highest_end
heap_above segments = λ k d h. let e = highest_above segments 0 k d h in omega (arith, e)

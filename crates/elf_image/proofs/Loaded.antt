-- What holds of the loaded segments of a file, and of the image of a file that keeps all rules.
use Rattle.std.proofs.Common.{◌≡◌, ℕ, ◌+◌, ◌-◌, ◌*◌, ◌/◌, ◌%◌, ◌<◌, ◌≤◌, Bool, true, false, List, [], ◌∷◌, Option, Some, None, Ok, length, get_or, arith, filter, ◌==◌, All, find, refl, if◌then◌else◌}
use Rattle.std.specs.List.{list_any}
use Rattle.std.proofs.lemmas.Bool.{and_parts, not-false}
use Rattle.std.proofs.lemmas.Bool.Decides.{nat_tests}
use Rattle.std.proofs.lemmas.List.Elements.{filter_passes, All-weaker}
use Rattle.std.proofs.lemmas.List.Folds.{Any-from_list_any}
use Rattle.std.proofs.lemmas.List.FromFn.{length-map-range_with_len}
use Rattle.elf_image.specs.declared.program_header.ProgramHeader.{ProgramHeader}
use Rattle.elf_image.specs.Fields.{program_headers, entry_of}
use Rattle.elf_image.specs.Segments.{segments_of, is_loaded, passes_file, is_misplaced, overlap, is_entry, holds, memory_end}
use Rattle.elf_image.specs.Span.{low_of, heap_low_of, highest_end}
use Rattle.elf_image.specs.Rules.{Rule, breaks, verdict, verdict_of, segment_rules, FileRange, MemoryRange, Apart, Span, Entry}
use Rattle.elf_image.specs.Image.{ImageValue, IsImage, loaded, byte_at, words_from, word_from}
use Rattle.elf_image.specs.Filling.{CanFill}
use Rattle.elf_image.specs.View.{words_in}
use Rattle.elf_image.proofs.Words.{words_same}
use Rattle.elf_image.proofs.Spans.{low_below, heap_above, highest_below}
use Rattle.elf_image.proofs.Overlaps.{holds_low, holds_high}

loaded_size : (s : ProgramHeader) → is_loaded s ≡ true → 0 < s.memory_size
loaded_size s is = grind (arith, nat_tests)

-- each loaded segment has a size in memory
pub sizes_of : (file : List ℕ) → All (λ s. 0 < s.memory_size) (segments_of file)
unfolding segments_of
sizes_of file =
    All-weaker (λ s. is_loaded s ≡ true) (λ s. 0 < s.memory_size) loaded_size
    (filter is_loaded (program_headers file)) (filter_passes is_loaded (program_headers file))

-- no rule on segments is broken
pub record Kept (file : List ℕ) : Type 0 where
  pub in_file : list_any (passes_file (length file)) (segments_of file) ≡ false
  pub placed : list_any is_misplaced (segments_of file) ≡ false
  pub apart : overlap (segments_of file) ≡ false
  pub span : heap_low_of (segments_of file) - low_of (segments_of file) ≤ 67_108_864
  pub entry : is_entry (segments_of file) (entry_of file) ≡ true

pub first_not :
    (p : Rule → Bool) (rule : Rule) (others : List Rule) → find p (rule ∷ others) ≡ None
    → (p rule ≡ false) × (find p others ≡ None)
first_not p rule others none = go (p rule) refl none where
  go : (b : Bool) → p rule ≡ b → (if b then Some rule else find p others) ≡ None
      → (p rule ≡ false) × (find p others ≡ None)
  go true e none = cc
  go false e none = (e, none)

kept_as :
    (file : List ℕ) → breaks file FileRange ≡ false → breaks file MemoryRange ≡ false
    → breaks file Apart ≡ false → breaks file Span ≡ false → breaks file Entry ≡ false → Kept file
unfolding breaks
kept_as file in_file placed apart span entry = record {
  in_file = in_file;
  placed = placed;
  apart = apart;
  span = grind (arith, nat_tests);
  entry = not-false _ entry;
}

pub no_fault : (o : Option Rule) → verdict_of o ≡ Ok tt → o ≡ None
no_fault None e = refl
no_fault (Some rule) e = cc

pub kept_from : (file : List ℕ) → verdict file segment_rules ≡ Ok tt → Kept file
unfolding verdict
kept_from file kept =
    let none : find (breaks file) segment_rules ≡ None = no_fault (find (breaks file) segment_rules) kept in
    let one = first_not (breaks file) FileRange (MemoryRange ∷ Apart ∷ Span ∷ Entry ∷ []) none in
    let two = first_not (breaks file) MemoryRange (Apart ∷ Span ∷ Entry ∷ []) one.1 in
    let three = first_not (breaks file) Apart (Span ∷ Entry ∷ []) two.1 in
    let four = first_not (breaks file) Span (Entry ∷ []) three.1 in
    let five = first_not (breaks file) Entry [] four.1 in
    kept_as file one.0 two.0 three.0 four.0 five.0

-- the entry lies between where memory begins and where the heap does
pub record HasEntry (file : List ℕ) : Type 0 where
  pub even : entry_of file % 4 ≡ 0
  pub above : low_of (segments_of file) ≤ entry_of file
  pub below : entry_of file < heap_low_of (segments_of file)

pub entry_within : (file : List ℕ) → Kept file → HasEntry file
entry_within file kept =
    let segments : List ProgramHeader = segments_of file in
    let parts = and_parts (entry_of file % 4 == 0) (list_any (λ s. holds s (entry_of file)) segments) kept.entry in
    let (k, s, within, is, held) = Any-from_list_any (λ s. holds s (entry_of file)) segments parts.1 in
    let low : low_of segments ≤ s.address = rw is at (low_below segments k s within) in
    let high : memory_end s ≤ heap_low_of segments = rw is at (heap_above segments k s within) in
    let start : s.address ≤ entry_of file = holds_low s (entry_of file) held in
    let end : entry_of file < memory_end s = holds_high s (entry_of file) held in
    record {
      even = grind (arith, nat_tests);
      above = omega arith;
      below = omega arith;
    }

-- the segments can fill the addresses up to the heap
pub can_fill :
    (file : List ℕ) (segments : List ProgramHeader) (low heap_low : ℕ) → Kept file
    → segments ≡ segments_of file → low ≡ low_of segments → heap_low ≡ heap_low_of segments
    → CanFill low (heap_low - low) file segments
can_fill file segments low heap_low kept of first past =
    let entry : HasEntry file = entry_within file kept in
    let rises : low ≤ heap_low = rw (first, past, of) (omega arith) in
    record {
      above = rw first (low_below segments);
      below = λ k d h. let end = heap_above segments k d h in omega arith;
      in_file = rw of kept.in_file;
      placed = rw of kept.placed;
      apart = rw of kept.apart;
    }

pub is_image : (file : List ℕ) → Kept file → IsImage (loaded file)
unfolding loaded
is_image file kept =
    let segments : List ProgramHeader = segments_of file in
    let entry : HasEntry file = entry_within file kept in
    let top : highest_end segments ≤ 0x70000000 = highest_below segments kept.placed in
    let many : length (words_from (byte_at file segments) (low_of segments) (heap_low_of segments))
    ≡ (heap_low_of segments - low_of segments) / 4
    = length-map-range_with_len (λ k. word_from (byte_at file segments) (low_of segments + 4 * k)) 0
    ((heap_low_of segments - low_of segments) / 4) in
    record {
      entry = entry.even;
      above = entry.above;
      below = entry.below;
      low = omega arith;
      heap_low = omega arith;
      highest = omega arith;
      span = kept.span;
      words = omega (arith, many);
    }

-- an image by its parts
abbrev pub image_with : ℕ → ℕ → ℕ → List ℕ → ImageValue
image_with entry low heap_low words =
    record { entry = entry; low = low; heap_low = heap_low; words = words }

-- an image whose bytes are those that the segments give is the image of the file
pub loaded_as :
    (file : List ℕ) (segments : List ProgramHeader) (entry low heap_low : ℕ) (memory : List ℕ)
    → segments ≡ segments_of file → entry ≡ entry_of file → low ≡ low_of segments
    → heap_low ≡ heap_low_of segments → length memory ≡ heap_low - low
    → ((k : ℕ) → k < length memory → get_or memory k 0 ≡ byte_at file segments (low + k))
    → image_with entry low heap_low (words_in memory) ≡ loaded file
unfolding loaded
loaded_as file segments entry low heap_low memory of start first past len same =
    let words : words_in memory ≡ words_from (byte_at file segments) low heap_low =
    words_same memory (byte_at file segments) low heap_low len same in
    rw (words, start, past, first, of) refl

use Rattle.std.proofs.Common.{rules, ◌≡◌, List}
use Rattle.std.specs.List.Sorted.{IsPermutation, IsNonDecreasingBy}
use Rattle.std.proofs.lemmas.List.Sorted.{IsNonDecreasingBy-from_sort_by_key}
use Rattle.elf_image.specs.declared.program_header.ProgramHeader.{ProgramHeader}
use Rattle.elf_image.proofs.Overlaps.{overlap_by_neighbours}
use Rattle.elf_image.proofs.overlap.overlap.Goals as goal

pub returns : goal.returns
returns c =
    let segments : List ProgramHeader = c.args.segments.now in
    let sorted : List ProgramHeader = c.sort_unstable_by_key.new.self.items in
    let copied : c.in_ok-sorted.sorted.items ≡ segments =
    c.in_ok-sorted.ensures.items_if_clones_equal (λ x y e. search rules) in
    let moves : IsPermutation segments sorted = rw (← copied) c.sort_unstable_by_key.ensures.permutation in
    let rises : IsNonDecreasingBy (λ s. s.address) sorted =
    IsNonDecreasingBy-from_sort_by_key (λ s. s.address) sorted c.sort_unstable_by_key.ensures.sorted
    (λ a r q k. search rules) in
    overlap_by_neighbours segments sorted c.reaches_next.result moves rises c.requires
    (rw c.deref.ensures.value at c.reaches_next.ensures.none)
    (rw c.deref.ensures.value at c.reaches_next.ensures.some)

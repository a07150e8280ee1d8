use Rattle.std.proofs.Common.{arith, sym, subst}
use Rattle.elf_image.specs.Image.{ImageValue, IsImage}
use Rattle.elf_image.proofs.Loaded.{HasEntry, kept_from, entry_within, can_fill, is_image, loaded_as}
use Rattle.elf_image.proofs.image.Image.load.Goals as goal

pub heap_low_of-heap_low-requires : goal.heap_low_of-heap_low-requires
heap_low_of-heap_low-requires c =
    rw c.requires.segments (kept_from c.args.bytes.now c.requires.kept).placed

pub overflow_sub-heap_low : goal.overflow_sub-heap_low
overflow_sub-heap_low c =
    let entry : HasEntry c.args.bytes.now =
    entry_within c.args.bytes.now (kept_from c.args.bytes.now c.requires.kept) in
    rw (c.low_of-low.ensures, c.heap_low_of-heap_low.ensures, c.requires.segments) (omega arith)

pub memory_of-requires : goal.memory_of-requires
memory_of-requires c =
    can_fill c.args.bytes.now c.args.segments.now c.low_of-low.result c.heap_low_of-heap_low.result
    (kept_from c.args.bytes.now c.requires.kept) c.requires.segments c.low_of-low.ensures
    c.heap_low_of-heap_low.ensures

pub returns : goal.returns
returns c =
    loaded_as c.args.bytes.now c.args.segments.now c.entry_of-entry.result c.low_of-low.result
    c.heap_low_of-heap_low.result c.in_ok-memory.memory.items c.requires.segments c.entry_of-entry.ensures
    c.low_of-low.ensures c.heap_low_of-heap_low.ensures c.in_ok-memory.ensures.len
    (λ k h. c.in_ok-memory.ensures.bytes k (omega (arith, c.in_ok-memory.ensures.len)))

pub invariant_of-result : goal.invariant_of-result
invariant_of-result c =
    let same = loaded_as c.args.bytes.now c.args.segments.now c.entry_of-entry.result c.low_of-low.result
    c.heap_low_of-heap_low.result c.in_ok-memory.memory.items c.requires.segments c.entry_of-entry.ensures
    c.low_of-low.ensures c.heap_low_of-heap_low.ensures c.in_ok-memory.ensures.len
    (λ k h. c.in_ok-memory.ensures.bytes k (omega (arith, c.in_ok-memory.ensures.len))) in
    let P : ImageValue → Type 0 = λ image. IsImage image in
    subst P (sym same) (is_image c.args.bytes.now (kept_from c.args.bytes.now c.requires.kept))

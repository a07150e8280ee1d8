use Rattle.std.proofs.Common.{ℕ, ◌+◌, ◌-◌, arith, rules}
use Rattle.std.proofs.lemmas.List.{places}
use Rattle.elf_image.specs.declared.program_header.ProgramHeader.{ProgramHeader}
use Rattle.elf_image.proofs.Fills.{filled}
use Rattle.elf_image.proofs.filling.fill.Goals as goal

pub returns : goal.returns
returns c =
    let s : ProgramHeader = c.args.segment.now in
    let file = c.args.bytes.now in
    let place : ℕ = s.address - c.args.low in
    let count : ℕ = place + s.file_size - place in
    λ k h.
    filled c.args.memory.now c.copy_from_slice.new.self file c.args.low place count k s (omega arith)
    (rw c.copy_from_slice.ensures.after (search (rules, places)))
    (λ i b. rw c.copy_from_slice.ensures.after (grind (arith, places))) (omega arith) (omega arith)

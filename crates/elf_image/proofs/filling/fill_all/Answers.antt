use Rattle.std.proofs.Common.{◌<◌, length, arith}
use Rattle.elf_image.specs.declared.program_header.ProgramHeader.{ProgramHeader}
use Rattle.elf_image.specs.Image.{byte_at}
use Rattle.elf_image.proofs.Fills.{filled_more}
use Rattle.elf_image.proofs.filling.fill_all.Goals as goal

pub loop-segment-init : goal.loop-segment-init
unfolding byte_at
loop-segment-init c = λ k h. c.requires.zeros k

pub loop-segment-preserved : goal.loop-segment-preserved
loop-segment-preserved c = λ k h.
    let within : k < length c.loop-segment.memory = omega arith in
    let first : ProgramHeader = record { kind = 0; offset = 0; address = 0; file_size = 0; memory_size = 0 } in
    filled_more c.args.bytes.now c.fill.new.memory c.loop-segment.memory c.args.segments.now
    c.loop-segment.segment-index c.args.low k first c.loop-segment-test.true c.requires.segments.placed c.requires.segments.apart
    (c.loop-segment.invariant k within) (c.fill.ensures k within)

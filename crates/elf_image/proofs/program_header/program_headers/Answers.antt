use Rattle.std.proofs.Common.{◌≡◌, arith}
use Rattle.elf_image.specs.Fields.{header_count}
use Rattle.elf_image.proofs.Headers.{all_read}
use Rattle.elf_image.proofs.program_header.program_headers.Goals as goal

pub returns : goal.returns
returns c =
    let many : c.loop-i.i ≡ header_count c.args.bytes.now = omega arith in
    all_read c.args.bytes.now c.headers_place-place.result c.loop-i.i c.loop-i.headers.items
    c.loop-i.invariant.read c.headers_place-place.ensures many

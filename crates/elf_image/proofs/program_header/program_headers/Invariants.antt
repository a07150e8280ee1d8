use Rattle.std.proofs.Common.{◌≡◌, ◌+◌, ◌*◌, ◌≤◌, map, vec_capacity, vec_len}
use Rattle.std.specs.List.{range_with_len}
use Rattle.elf_image.specs.Fields.{program_header_at}
use Rattle.elf_image.proofs.program_header.program_headers.Given as goal

abbrev pub invariant-loop-i : goal.invariant-loop-i
invariant-loop-i l = record {
  room : l.count ≤ vec_capacity l.headers;
  len : vec_len l.headers ≡ l.i;
  read : l.headers.items
      ≡ map (λ i. program_header_at l.bytes (l.place + 32 * i)) (range_with_len 0 l.i);
}

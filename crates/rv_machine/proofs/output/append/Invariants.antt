use Rattle.std.proofs.Common.{◌≡◌, ◌+◌, ◌≤◌, ◌++◌, vec_len, vec_capacity}
use Rattle.rv_machine.specs.Output.{bytes_at}
use Rattle.rv_machine.proofs.output.append.Given as goal

abbrev pub invariant-loop-offset : goal.invariant-loop-offset
invariant-loop-offset g l = record {
  bytes : l.output.items
      ≡ l.fn.output.items ++ bytes_at (g.M.Memory.words l.memory) l.buffer.addr l.offset;
  room : vec_len l.output + l.buffer.len ≤ vec_capacity l.output + l.offset;
}

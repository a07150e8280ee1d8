use Rattle.std.proofs.Common.{◌≡◌, ◌≤◌, take, vec_capacity}
use Rattle.rv_machine.proofs.program_memory.ProgramMemory.new.Given as goal

abbrev pub invariant-loop-i : goal.invariant-loop-i
invariant-loop-i l = record {
  words : l.words.items ≡ take l.i l.image.words;
  room : l.size ≤ vec_capacity l.words;
}

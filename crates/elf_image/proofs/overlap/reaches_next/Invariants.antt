use Rattle.std.proofs.Common.{◌≤◌}
use Rattle.std.specs.List.{AllAdjacentBelow}
use Rattle.elf_image.specs.Segments.{memory_end}
use Rattle.elf_image.proofs.overlap.reaches_next.Given as goal

abbrev pub invariant-loop-i : goal.invariant-loop-i
invariant-loop-i l = AllAdjacentBelow (λ a b. memory_end a ≤ b.address) l.sorted l.i

use Rattle.std.proofs.Common.{◌≡◌, ◌≤◌, ◌+◌, ◌-◌, ℕ, List, length}
use Rattle.smarts_io.specs.Bytes.{Gives}
use Rattle.library_reader.proofs.intake.pass_over.Given as goal

abbrev pub invariant-loop-came : goal.invariant-loop-came
invariant-loop-came g l = record {
  given : (given : List ℕ) × Gives (g.S.Source.rest l.fn.source) given (g.S.Source.rest l.source) × (l.came ≡ l.before + length given);
  most : l.came ≤ 1073741825;
  room : length l.buffer ≡ length l.fn.buffer;
  later : g.S.Source.faults l.fn.source ≤ g.S.Source.faults l.source;
}

abbrev pub decreases-loop-came : goal.decreases-loop-came
decreases-loop-came g l = 1073741824 + 1 - l.came

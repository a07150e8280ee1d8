use Rattle.std.proofs.Common.{◌≤◌, ◌-◌, ℕ, List}
use Rattle.library_reader.specs.Intake.{HasFed}
use Rattle.library_reader.specs.Reader.{came_in}
use Rattle.library_reader.proofs.intake.Intake.next.Given as goal

abbrev pub invariant-loop-stepped : goal.invariant-loop-stepped
invariant-loop-stepped g l = record {
  fed : (given : List ℕ) × HasFed l.fn.self l.self (g.S.Source.rest l.fn.source) (g.S.Source.rest l.source) given;
  later : g.S.Source.faults l.fn.source ≤ g.S.Source.faults l.source;
}

abbrev pub decreases-loop-stepped : goal.decreases-loop-stepped
decreases-loop-stepped g l = 1073741824 - came_in l.self

use Rattle.std.proofs.Common.{◌*◌, ◌-◌, length}
use Rattle.ruu_timing.specs.Progress.{sum_of}
use Rattle.ruu_timing.specs.Ruu.{IsUnderWay}
use Rattle.ruu_timing.proofs.tests.turns.Given as goal

abbrev pub invariant-turns : goal.invariant-turns
invariant-turns l = IsUnderWay l.items l.ruu

abbrev pub decreases-turns : goal.decreases-turns
decreases-turns l = 4 * length l.items - sum_of l.ruu.progress

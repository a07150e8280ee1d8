use Rattle.std.proofs.Common.{take}
use Rattle.ruu_timing.specs.Flight.{IsKept}
use Rattle.ruu_timing.specs.Times.{times}
use Rattle.ruu_timing.proofs.flight.Flight.run.Given as goal

abbrev pub invariant-loop-i : goal.invariant-loop-i
invariant-loop-i g l = IsKept l.w (times l.w (take l.i (g.T.Trace.items l.trace))) l.self

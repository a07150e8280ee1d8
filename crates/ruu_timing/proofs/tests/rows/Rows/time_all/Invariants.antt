use Rattle.std.proofs.Common.{◌≡◌, take}
use Rattle.ruu_timing.specs.Times.{times}
use Rattle.ruu_timing.proofs.tests.rows.Rows.time_all.Given as goal

abbrev pub invariant-loop-i : goal.invariant-loop-i
invariant-loop-i g l = l.self ≡ times l.w (take l.i (g.T.Trace.items l.trace))

use Rattle.std.proofs.Common.{◌≡◌, ◌+◌, ◌*◌, ◌≤◌}
use Rattle.ruu_timing.specs.Scalar.{scalar_cycles}
use Rattle.ruu_timing.proofs.scalar.scalar_time.Given as goal

abbrev pub invariant-loop-i : goal.invariant-loop-i
invariant-loop-i g l = record {
  rest : l.total + scalar_cycles l.latencies (g.T.Trace.items l.trace) l.i
      ≡ scalar_cycles l.latencies (g.T.Trace.items l.trace) l.skip;
  bound : l.total ≤ 64 * l.i;
}

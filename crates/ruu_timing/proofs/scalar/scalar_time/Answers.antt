use Rattle.std.proofs.Common.{◌≡◌, ◌+◌, ◌-◌, ◌*◌, ◌≤◌, List, length, arith}
use Rattle.hierarchy.specs.declared.marked.Marked.{Marked}
use Rattle.ruu_timing.specs.Scalar.{scalar_cycles, scalar_latency}
use Rattle.ruu_timing.proofs.ScalarLemmas.{one_fewer, none_left, scalar_within}
use Rattle.ruu_timing.proofs.scalar.scalar_time.Goals as goal

pub loop-i-preserved : goal.loop-i-preserved
loop-i-preserved g c =
    let step : scalar_latency c.args.latencies.now c.at.result.class
    + scalar_cycles c.args.latencies.now (g.T.Trace.items c.args.trace.now) (c.loop-i.i + 1)
    ≡ scalar_cycles c.args.latencies.now (g.T.Trace.items c.args.trace.now) c.loop-i.i =
    one_fewer c.args.latencies.now (g.T.Trace.items c.args.trace.now) c.loop-i.i c.at.result c.at.ensures in
    record { rest = omega arith; bound = omega arith }

pub returns : goal.returns
returns g c =
    let items : List Marked = g.T.Trace.items c.args.trace.now in
    let none : scalar_cycles c.args.latencies.now items c.loop-i.i ≡ 0 =
    none_left c.args.latencies.now items c.loop-i.i (omega arith) in
    let within : (length items - c.args.skip ≤ scalar_cycles c.args.latencies.now items c.args.skip)
    × (scalar_cycles c.args.latencies.now items c.args.skip ≤ 64 * (length items - c.args.skip)) =
    scalar_within c.args.latencies.now items c.args.skip c.requires.latencies in
    record {
      cycles = omega arith;
      least = omega (arith, within.0, c.requires.trace.within);
      most = λ few. omega (arith, within.1);
    }

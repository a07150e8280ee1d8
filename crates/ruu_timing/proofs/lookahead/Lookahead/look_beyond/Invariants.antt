use Rattle.std.proofs.Common.{◌-◌, ◌≤◌, drop, length}
use Rattle.std.specs.List.{AllByRecursion}
use Rattle.ruu_timing.specs.Lookahead.{IsAhead, timed_in}
use Rattle.ruu_timing.proofs.lookahead.Lookahead.look_beyond.Given as goal

abbrev pub invariant-ahead : goal.invariant-ahead
invariant-ahead g l = record {
  ahead : IsAhead l.w (g.T.Trace.items l.trace) l.self;
  gone : AllByRecursion (λ x. x.retirement ≤ l.t) (drop 289 (timed_in l.w (g.T.Trace.items l.trace) l.self));
}

abbrev pub decreases-ahead : goal.decreases-ahead
decreases-ahead g l = length (g.T.Trace.items l.trace) - l.self.flight.count

use Rattle.std.proofs.Common.{◌^◌, reverse}
use Rattle.ruu_timing.specs.Timed.{IsWithin, AreTimed}
use Rattle.ruu_timing.specs.Times.{accesses}
use Rattle.ruu_timing.proofs.TimedLemmas.{small, lent_small}
use Rattle.ruu_timing.proofs.ListLemmas.{each_get, each_filter}
use Rattle.ruu_timing.proofs.tests.rows.Rows.access_before.Goals as goal

pub returns-clause-within : goal.returns-clause-within
returns-clause-within c =
    let timed : AreTimed (reverse c.deref.result.now) = rw c.deref.ensures.value c.self.invariant.1 in
    lent_small (reverse c.deref.result.now) _ _ c.access_before.ensures (each_get (IsWithin (2 ^ 29)) _ c.args.n (each_filter (IsWithin (2 ^ 29)) accesses _ (small _ timed)))

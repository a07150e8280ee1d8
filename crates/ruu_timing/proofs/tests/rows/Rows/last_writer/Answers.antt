use Rattle.std.proofs.Common.{◌^◌, reverse}
use Rattle.ruu_timing.specs.Timed.{IsWithin, AreTimed}
use Rattle.ruu_timing.specs.Times.{writes}
use Rattle.ruu_timing.proofs.TimedLemmas.{small, lent_small}
use Rattle.ruu_timing.proofs.ListLemmas.{each_find}
use Rattle.ruu_timing.proofs.tests.rows.Rows.last_writer.Goals as goal

pub returns-clause-within : goal.returns-clause-within
returns-clause-within c =
    let timed : AreTimed (reverse c.deref.result.now) = rw c.deref.ensures.value c.self.invariant.1 in
    lent_small (reverse c.deref.result.now) _ _ c.last_writer.ensures (each_find (IsWithin (2 ^ 29)) (writes c.args.register) _ (small _ timed))

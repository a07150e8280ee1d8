use Rattle.std.proofs.Common.{◌-◌, reverse}
use Rattle.ruu_timing.specs.Timed.{AreTimed}
use Rattle.ruu_timing.proofs.TimedLemmas.{small_back, lent_small}
use Rattle.ruu_timing.proofs.tests.rows.Rows.back.Goals as goal

pub returns-clause-within : goal.returns-clause-within
returns-clause-within c =
    let timed : AreTimed (reverse c.deref.result.now) = rw c.deref.ensures.value c.self.invariant.1 in
    lent_small (reverse c.deref.result.now) _ _ c.back.ensures (small_back _ (c.args.k - 1) timed)

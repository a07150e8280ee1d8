use Rattle.std.proofs.Common.{◌≡◌, arith}
use Rattle.sample_design.specs.Units.{unit_count}
use Rattle.turbosmarts.proofs.SampleLemmas.{units_bounds}
use Rattle.turbosmarts.proofs.commands.sample.count_in.Goals as goal

pub returns-in-Ok-clause-some : goal.returns-in-Ok-clause-some
returns-in-Ok-clause-some c = (units_bounds _ _ _ c.in-Ok.ensures.units).0

pub returns-in-Ok-clause-few : goal.returns-in-Ok-clause-few
returns-in-Ok-clause-few c = (units_bounds _ _ _ c.in-Ok.ensures.units).1

pub returns-in-Ok-clause-within : goal.returns-in-Ok-clause-within
returns-in-Ok-clause-within c = λ p h.
    let count : c.in-Ok.count ≡ unit_count c.args.design.now c.args.length =
    (units_bounds _ _ _ c.in-Ok.ensures.units).2 in
    (c.in-Ok.ensures.below p).0 (omega arith)

use Rattle.std.proofs.Common.{refl}
use Rattle.turbosmarts.proofs.ScalarLemmas.{summed_more}
use Rattle.turbosmarts.proofs.scalar.ScalarWatch.see.Goals as goal

pub returns-clause-sees : goal.returns-clause-sees
returns-clause-sees c = (
  refl,
  λ formed begun es before.
      rw c.scalar_latency-latency.ensures.value (summed_more _ _ _ _ _ _ before refl),
)

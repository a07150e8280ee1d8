use Rattle.std.proofs.Common.{refl}
use Rattle.ruu_timing.proofs.RuuLemmas.{has_begun}
use Rattle.ruu_timing.proofs.ruu.Ruu.begin.Goals as goal

pub returns-clause-begun : goal.returns-clause-begun
returns-clause-begun c = has_begun _ c.restart.ensures refl refl

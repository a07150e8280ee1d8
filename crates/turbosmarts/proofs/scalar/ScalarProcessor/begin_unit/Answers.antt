use Rattle.turbosmarts.proofs.ScalarLemmas.{summed_anew}
use Rattle.turbosmarts.proofs.scalar.ScalarProcessor.begin_unit.Goals as goal

pub returns-clause-shown : goal.returns-clause-shown
returns-clause-shown c = λ begun es before. summed_anew _ _ _ _ before

use Rattle.turbosmarts.proofs.ScalarLemmas.{summed_none}
use Rattle.turbosmarts.proofs.scalar.Scalar.new.Goals as goal

pub returns-clause-shown : goal.returns-clause-shown
returns-clause-shown c = summed_none _ c.requires

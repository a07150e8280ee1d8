use Rattle.turbosmarts.proofs.SampleLemmas.{start_runs}
use Rattle.turbosmarts.proofs.stages.machine_of.Goals as goal

pub returns-clause-running : goal.returns-clause-running
returns-clause-running c = start_runs _ _ _ c.new.ensures

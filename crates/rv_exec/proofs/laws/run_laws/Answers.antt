use Rattle.rv_exec.proofs.RanLemmas.{events_are_steps, runs_again}
use Rattle.rv_exec.proofs.laws.run_laws.Goals as goal

pub returns-clause-events : goal.returns-clause-events
returns-clause-events c = events_are_steps

pub returns-clause-again : goal.returns-clause-again
returns-clause-again c = runs_again

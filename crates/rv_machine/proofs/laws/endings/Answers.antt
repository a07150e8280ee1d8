use Rattle.rv_machine.proofs.OutcomeLemmas.{is_outcome}
use Rattle.rv_machine.proofs.laws.endings.Goals as goal

pub returns : goal.returns
returns c = is_outcome

use Rattle.rv_machine.proofs.StartLemmas.{starts_with}
use Rattle.rv_machine.proofs.laws.start_words.Goals as goal

pub returns : goal.returns
returns c = starts_with

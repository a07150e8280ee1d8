use Rattle.rv_machine.specs.Machine.{IsUnderWay}
use Rattle.rv_machine.proofs.whole.Whole.run.Given as goal

abbrev pub invariant-loop-at : goal.invariant-loop-at
invariant-loop-at l = IsUnderWay l.fn.self l.at l.self

use Rattle.smarts_base.specs.Least.{NonePasses}
use Rattle.predictor.specs.Parts.{bad_entry}
use Rattle.predictor.proofs.parts.first_bad_entry.Given as goal

abbrev pub invariant-loop-i : goal.invariant-loop-i
invariant-loop-i l = NonePasses l.i (bad_entry l.kind l.targets)

use Rattle.std.specs.Prelude.{⊤}
use Rattle.workers.proofs.tests.comes.Given as goal

abbrev pub invariant-loop-turn : goal.invariant-loop-turn
invariant-loop-turn l = ⊤

use Rattle.claim_table.specs.Tests.Crew.{IsOne}
use Rattle.claim_table.proofs.tests.turns.Given as goal

abbrev pub invariant-loop-turn : goal.invariant-loop-turn
invariant-loop-turn g l = IsOne l.board l.pass

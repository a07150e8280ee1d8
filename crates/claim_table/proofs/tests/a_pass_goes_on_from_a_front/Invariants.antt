use Rattle.std.proofs.Common.{[], ◌∷◌}
use Rattle.confidence.specs.declared.answer.Answer.TheVariants.{Cycles}
use Rattle.claim_table.proofs.tests.a_pass_goes_on_from_a_front.Given as goal

abbrev pub ghosts-one_pass : goal.ghosts-one_pass
ghosts-one_pass a b = record { lists = (Cycles 16 ∷ []) ∷ [] }

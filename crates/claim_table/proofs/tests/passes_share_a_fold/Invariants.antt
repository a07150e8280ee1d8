use Rattle.std.proofs.Common.{[], ◌∷◌}
use Rattle.confidence.specs.declared.answer.Answer.TheVariants.{Cycles}
use Rattle.claim_table.proofs.tests.passes_share_a_fold.Given as goal

abbrev pub ghosts-two_passes : goal.ghosts-two_passes
ghosts-two_passes a b = record { lists = (Cycles 16 ∷ Cycles 16 ∷ Cycles 16 ∷ []) ∷ [] }

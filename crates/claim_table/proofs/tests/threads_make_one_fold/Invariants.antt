use Rattle.std.proofs.Common.{[], ◌∷◌}
use Rattle.claim_table.proofs.tests.threads_make_one_fold.Given as goal

abbrev pub ghosts-shared_by : goal.ghosts-shared_by
ghosts-shared_by a b = record { lists = b.answers.now ∷ [] }

use Rattle.ordered_fold.proofs.StateLemmas.{run_is_core}
use Rattle.ordered_fold.proofs.core_state.core_run.Goals as goal

pub returns-clause-invariant : goal.returns-clause-invariant
returns-clause-invariant c =
    rw (c.run.ensures, c.in_ok-state.ensures)
    (run_is_core c.args.answers.now c.args.test c.args.seats c.args.events.now c.requires.some c.requires.most c.requires.held c.requires.test c.requires.seats)

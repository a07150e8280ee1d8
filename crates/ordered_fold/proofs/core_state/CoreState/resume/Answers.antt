use Rattle.ordered_fold.proofs.StateLemmas.{start_is_run}
use Rattle.ordered_fold.proofs.core_state.CoreState.resume.Goals as goal

pub invariant_of-result : goal.invariant_of-result
invariant_of-result c =
    rw (c.in_ok-from_slice.ensures.items, c.in_ok-new.ensures)
    (start_is_run c.args.front c.args.answers.now c.args.seats c.requires.batch c.requires.seats c.ranges.seats.fits)

use Rattle.ordered_fold.proofs.BatchLemmas.{fold_from-cut, fold_from-joined}
use Rattle.ordered_fold.proofs.RunLemmas.{keeps_invariant, no_number_twice, folds_in_order, stop_stays, one_fold}
use Rattle.ordered_fold.proofs.laws.machine_laws.Goals as goal

pub returns-clause-invariant : goal.returns-clause-invariant
returns-clause-invariant c = keeps_invariant

pub returns-clause-numbers : goal.returns-clause-numbers
returns-clause-numbers c = no_number_twice

pub returns-clause-order : goal.returns-clause-order
returns-clause-order c = folds_in_order

pub returns-clause-stop : goal.returns-clause-stop
returns-clause-stop c = stop_stays

pub returns-clause-one : goal.returns-clause-one
returns-clause-one c = one_fold

pub returns-clause-cut : goal.returns-clause-cut
returns-clause-cut c = fold_from-cut

pub returns-clause-joined : goal.returns-clause-joined
returns-clause-joined c = fold_from-joined

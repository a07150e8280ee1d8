use Rattle.ordered_fold.proofs.Folds.{end_is_least, fold_ends, whole_fold_ends, ended_stays, stays_from_end}
use Rattle.ordered_fold.proofs.laws.fold_laws.Goals as goal

pub returns-clause-least : goal.returns-clause-least
returns-clause-least c = end_is_least

pub returns-clause-ends : goal.returns-clause-ends
returns-clause-ends c = fold_ends

pub returns-clause-whole : goal.returns-clause-whole
returns-clause-whole c = whole_fold_ends

pub returns-clause-stays : goal.returns-clause-stays
returns-clause-stays c = ended_stays

pub returns-clause-from_end : goal.returns-clause-from_end
returns-clause-from_end c = stays_from_end

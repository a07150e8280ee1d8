use Rattle.std.proofs.Common.{refl}
use Rattle.ordered_fold.specs.Front.{front_of}
use Rattle.ordered_fold.proofs.Folds.{first_is_front}
use Rattle.ordered_fold.proofs.front.Front.new.Goals as goal

pub returns-clause-fold : goal.returns-clause-fold
unfolding front_of
returns-clause-fold c = rw c.new.ensures.sums refl

pub returns-clause-front : goal.returns-clause-front
returns-clause-front c =
    rw c.new.ensures.sums (first_is_front c.args.total c.args.test c.requires.some)

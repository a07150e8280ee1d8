use Rattle.std.proofs.Common.{[], ◌∷◌, ◌++◌, rules, ◌∙◌, subst, sym}
use Rattle.ordered_fold.specs.declared.front.Front.{Front}
use Rattle.ordered_fold.specs.Front.{IsFront}
use Rattle.ordered_fold.proofs.Fronts.{push_keeps}
use Rattle.ordered_fold.proofs.Folds.{front_of-pushed}
use Rattle.ordered_fold.proofs.front.Front.push.Goals as goal

pub returns-clause-value : goal.returns-clause-value
returns-clause-value c = search rules

pub returns-clause-fold : goal.returns-clause-fold
returns-clause-fold c total test answers e =
    returns-clause-value c
    ∙ front_of-pushed total test answers c.args.self.now c.args.answer e c.requires.going

pub returns-clause-front : goal.returns-clause-front
returns-clause-front c answers is =
    let P : Front → Type 0 = λ front. IsFront front (answers ++ c.args.answer ∷ []) in
    subst P (sym (returns-clause-value c))
    (push_keeps c.args.self.now answers c.args.answer is c.requires.going)

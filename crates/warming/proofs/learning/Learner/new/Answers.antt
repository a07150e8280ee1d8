use Rattle.std.proofs.Common.{◌≡◌, refl, ◌∙◌}
use Rattle.warming.proofs.LearningLemmas.{learnt_none}
use Rattle.warming.proofs.learning.Learner.new.Goals as goal

pub returns : goal.returns
returns c = rw (c.in_ok-lists_of.ensures, c.in_ok-predictors_of.ensures) (learnt_none c.args.records.now)

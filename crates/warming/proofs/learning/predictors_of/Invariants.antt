use Rattle.std.proofs.Common.{◌≡◌, [], map, take}
use Rattle.predictor.specs.Rules.{trained}
use Rattle.warming.proofs.learning.predictors_of.Given as goal

abbrev pub invariant-loop-kind : goal.invariant-loop-kind
invariant-loop-kind l = l.predictors.items ≡ map (λ kind. trained kind []) (take l.kind-index l.list)

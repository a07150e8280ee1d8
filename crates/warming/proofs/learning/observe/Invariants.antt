use Rattle.std.proofs.Common.{◌≡◌, ◌++◌, map, take, drop}
use Rattle.predictor.specs.Rules.{observed}
use Rattle.warming.proofs.learning.observe.Given as goal

abbrev pub invariant-loop-predictor : goal.invariant-loop-predictor
invariant-loop-predictor l =
    l.predictors
    ≡ map (λ tables. observed tables l.event) (take l.predictor-index l.fn.predictors) ++ drop l.predictor-index l.fn.predictors

use Rattle.std.proofs.Common.{◌≡◌, take, All}
use Rattle.warming.specs.Learning.{IsNumbered}
use Rattle.warming.proofs.learning.Learner.images.Given as goal

abbrev pub invariant-loop-predictor : goal.invariant-loop-predictor
invariant-loop-predictor l = record {
  images : l.images.items ≡ take l.predictor-index l.predictor-items;
  each : All IsNumbered l.images.items;
}

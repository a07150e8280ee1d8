-- The kinds of predictors that there are.
use Rattle.std.specs.Prelude.{◌≤◌}
use Rattle.predictor.specs.declared.kind.PredictorKind.{PredictorKind}

pub record IsKind (kind : PredictorKind) : Type 0 where
  pub least_bits : 4 ≤ kind.bits
  pub most_bits : kind.bits ≤ 14
  pub least_target_log : 2 ≤ kind.target_log
  pub most_target_log : kind.target_log ≤ 10
  pub most_depth : kind.depth ≤ 16

-- Kinds in the front of a row.
use Rattle.std.specs.Prelude.{◌≡◌, ◌≤◌, List, length, take}
use Rattle.predictor.specs.declared.kind.PredictorKind.{PredictorKind}
use Rattle.live_points.specs.declared.kinds.Kinds.TheInside.{Inside}
use Rattle.live_points.specs.Kinds.{AreKinds}

abbrev pub kinds_of : Inside → List PredictorKind
kinds_of fields = take fields.count fields.kinds

pub record HasKinds (fields : Inside) : Type 0 where
  pub row : length fields.kinds ≡ 4
  pub within : fields.count ≤ 4
  pub kinds : AreKinds (kinds_of fields)

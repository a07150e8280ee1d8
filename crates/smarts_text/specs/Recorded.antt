-- What a library is to be made for, by accepted words.
use Rattle.std.specs.Prelude.{ℕ, List, [], ◌∷◌, option_and_then}
use Rattle.std.specs.Option.{unwrap_or}
use Rattle.std.specs.Result.{result_ok}
use Rattle.live_points.specs.declared.header.Records.{Records}
use Rattle.predictor.specs.declared.kind.PredictorKind.{PredictorKind}
use Rattle.smarts_text.specs.Configured.{places_in, usual_kind}
use Rattle.smarts_text.specs.Keys as Keys
use Rattle.smarts_text.specs.Kinds.{kinds_read}
use Rattle.smarts_text.specs.Words.{value_under}

-- the kinds of predictors, of which the default is one
unfoldable pub kinds_in : List (List ℕ) → List PredictorKind
kinds_in words =
    unwrap_or
    (option_and_then (λ text. result_ok (kinds_read text)) (value_under [] Keys.predictors_key.name words))
    (usual_kind Keys.predictors_key.form ∷ [])

unfoldable pub records_in : List (List ℕ) → Records
records_in words = record { places = places_in [] words; kinds = kinds_in words }

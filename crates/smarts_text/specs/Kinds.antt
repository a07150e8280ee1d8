-- Values that list kinds of predictors, with commas between.
use Rattle.std.specs.Prelude.{◌==◌, ◌++◌, ℕ, Bool, List, [], ◌∷◌, if◌then◌else◌, Option, Some, None, option_and_then, Result, Err}
use Rattle.std.specs.List.{list_all, slice_split}
use Rattle.std.specs.Option.{is_some, ok_or}
use Rattle.std.specs.Result.{result_ok}
use Rattle.live_points.specs.Kinds.{may_join}
use Rattle.predictor.specs.declared.kind.PredictorKind.{PredictorKind}
use Rattle.smarts_text.specs.declared.read.WordKind.{WordKind}
use Rattle.smarts_text.specs.declared.read.WordKind.TheVariants.{BadValue, OutOfRange}
use Rattle.smarts_text.specs.Shapes.{kind_read, scheme_and_three}

-- the parts of a text between its commas
abbrev pub between_commas : List ℕ → List (List ℕ)
between_commas text = slice_split (λ b. b == 44) text

-- every part is a scheme and its numbers
abbrev pub are_spelled : List (List ℕ) → Bool
are_spelled parts = list_all (λ part. is_some (scheme_and_three part)) parts

abbrev pub joined_if : Bool → Option (List PredictorKind) → Option (List PredictorKind)
joined_if may kinds = if may then kinds else None

-- The kinds of these parts behind others, where each of them is in range and may join those before it: there are no
-- more than four, and no two of them are the same.
unfoldable pub joined : List PredictorKind → List (List ℕ) → Option (List PredictorKind)
joined kinds [] = Some kinds
joined kinds (part ∷ parts) =
    option_and_then
    (λ kind. joined_if (may_join kind kinds) (joined (kinds ++ kind ∷ []) parts))
    (result_ok (kind_read part))

abbrev pub kinds_judged : List (List ℕ) → Result (List PredictorKind) WordKind
kinds_judged parts = if are_spelled parts then ok_or (joined [] parts) OutOfRange else Err BadValue

-- the kinds of a text: all of it is judged for its form before any of it for its range
abbrev pub kinds_read : List ℕ → Result (List PredictorKind) WordKind
kinds_read text = kinds_judged (between_commas text)

-- Kinds of predictors, no two of them the same.
use Rattle.std.specs.Prelude.{◌≡◌, ◌≤◌, ◌==◌, ◌&&◌, Bool, true, false, not, nat_lt, List, [], length}
use Rattle.std.specs.List.{list_any}
use Rattle.predictor.specs.declared.kind.PredictorKind.{PredictorKind}
use Rattle.predictor.specs.declared.kind.Scheme.{Scheme}
use Rattle.predictor.specs.declared.kind.Scheme.TheVariants.{Bimodal, Gshare}
use Rattle.live_words.specs.Follow.{Follow}

abbrev pub same_scheme : Scheme → Scheme → Bool
same_scheme Bimodal Bimodal = true
same_scheme Gshare Gshare = true
same_scheme Bimodal Gshare = false
same_scheme Gshare Bimodal = false

abbrev pub same_kind : PredictorKind → PredictorKind → Bool
same_kind kind other =
    same_scheme kind.scheme other.scheme
    && ((kind.bits == other.bits) && ((kind.target_log == other.target_log) && (kind.depth == other.depth)))

abbrev pub is_among : PredictorKind → List PredictorKind → Bool
is_among kind kinds = list_any (same_kind kind) kinds

-- the kind is none of those before it
abbrev pub IsNew : List PredictorKind → PredictorKind → Type 0
IsNew before kind = is_among kind before ≡ false

-- one to four kinds
pub record AreKinds (kinds : List PredictorKind) : Type 0 where
  pub least : 1 ≤ length kinds
  pub most : length kinds ≤ 4
  pub distinct : Follow IsNew [] kinds

-- there is room for the kind, and it isn't there
abbrev pub may_join : PredictorKind → List PredictorKind → Bool
may_join kind kinds = nat_lt (length kinds) 4 && not (is_among kind kinds)

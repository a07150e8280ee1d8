-- One more kind.
use Rattle.std.proofs.Common.{◌≡◌, ◌<◌, ℕ, ◌+◌, List, [], ◌∷◌, ◌++◌, length, take, set, false, arith, add-one, length-append}
use Rattle.std.proofs.lemmas.List.{length-take-le}
use Rattle.std.proofs.Math.Seq.{take-suc-set}
use Rattle.predictor.specs.declared.kind.PredictorKind.{PredictorKind}
use Rattle.live_words.proofs.FollowLemmas.{follow_more}
use Rattle.live_points.specs.Kinds.{is_among, IsNew, AreKinds}

pub kinds_more :
    (kinds : List PredictorKind) (kind : PredictorKind) → AreKinds kinds → length kinds < 4
    → is_among kind kinds ≡ false → AreKinds (kinds ++ kind ∷ [])
kinds_more kinds kind are h new =
    let len : length (kinds ++ kind ∷ []) ≡ length kinds + 1 = length-append kinds (kind ∷ []) in
    record {
      least = omega arith;
      most = omega arith;
      distinct = follow_more IsNew [] kinds kind are.distinct new;
    }

-- a kind written behind those that are taken
pub kinds_written :
    (row : List PredictorKind) (count : ℕ) (kind : PredictorKind) → AreKinds (take count row) → count < 4
    → length row ≡ 4 → is_among kind (take count row) ≡ false → AreKinds (take (count + 1) (set row count kind))
kinds_written row count kind are h four new =
    let len : length (take count row) ≡ count = length-take-le count row (omega arith) in
    rw (add-one, take-suc-set row count kind (omega arith)) (kinds_more (take count row) kind are (omega arith) new)

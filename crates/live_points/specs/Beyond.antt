-- Processors that the records of live-points serve.
use Rattle.std.specs.Prelude.{◌≡◌, ◌<◌, ℕ, zero, suc, true, ⊤}
use Rattle.hierarchy.specs.declared.config.Config.{Config}
use Rattle.rebuild.specs.Merge.{Fits}
use Rattle.live_points.specs.declared.header.Records.{Records}
use Rattle.live_points.specs.Kinds.{is_among}

-- each cache and TLB can be rebuilt, and the predictor's kind is listed
pub record IsWithin (records : Records) (config : Config) : Type 0 where
  pub l1i : Fits records.places.l1i config.places.l1i
  pub l1d : Fits records.places.l1d config.places.l1d
  pub l2 : Fits records.places.l2 config.places.l2
  pub itlb : Fits records.places.itlb config.places.itlb
  pub dtlb : Fits records.places.dtlb config.places.dtlb
  pub predictor : is_among config.kind records.kinds ≡ true

-- the structure of this number can: the caches l1i, l1d and l2, the TLBs itlb and dtlb, and the predictor
abbrev pub IsCovered : Records → Config → ℕ → Type 0
IsCovered records config zero = Fits records.places.l1i config.places.l1i
IsCovered records config (suc zero) = Fits records.places.l1d config.places.l1d
IsCovered records config (suc (suc zero)) = Fits records.places.l2 config.places.l2
IsCovered records config (suc (suc (suc zero))) = Fits records.places.itlb config.places.itlb
IsCovered records config (suc (suc (suc (suc zero)))) = Fits records.places.dtlb config.places.dtlb
IsCovered records config (suc (suc (suc (suc (suc zero))))) = is_among config.kind records.kinds ≡ true
IsCovered records config (suc (suc (suc (suc (suc (suc more)))))) = ⊤

-- the first that can't
pub record IsFirstBeyond (records : Records) (config : Config) (structure : ℕ) : Type 0 where
  pub beyond : IsCovered records config structure → ⊥
  pub first : (before : ℕ) → before < structure → IsCovered records config before

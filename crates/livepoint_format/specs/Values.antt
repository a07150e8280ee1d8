-- What the bytes of a library tell: a header, a table of shared pairs, and points.
use Rattle.std.specs.Prelude.{ℕ, List}
use Rattle.lru_plain.specs.Shape.{Shape}
use Rattle.predictor.specs.declared.kind.PredictorKind.{PredictorKind}
use Rattle.hierarchy.specs.declared.places.Places.{Places}
use Rattle.live_points.specs.declared.point.LivePoint.{LivePoint}

-- the version of the bytes, the length of the run, the number of points, the design of the sample without a
-- budget, where the heap begins, the shapes of the records and the kinds of the images
pub record Head : Type 0 where
  pub version : ℕ
  pub instructions : ℕ
  pub points : ℕ
  pub unit : ℕ
  pub warm : ℕ
  pub every : ℕ
  pub offset : ℕ
  pub heap_low : ℕ
  pub seed : ℕ
  pub places : Places Shape
  pub kinds : List PredictorKind

-- a live-point, as contracts see it
abbrev pub Point : Type 0
Point = LivePoint

pub record Whole : Type 0 where
  pub head : Head
  pub shared : List (ℕ × ℕ)
  pub points : List Point

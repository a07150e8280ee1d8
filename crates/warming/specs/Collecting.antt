-- Collecting the live-points of the sampled units of a run, in the order of the run.
use Rattle.std.specs.Prelude.{◌≡◌, ◌≤◌, ◌<◌, ◌^◌, ℕ, nat_lt, Bool, true, false, None, List, [], length, map, slice_index_or, All}
use Rattle.std.specs.List.{range_with_len}
use Rattle.live_points.specs.declared.header.Header.{Header}
use Rattle.live_points.specs.declared.point.LivePoint.{LivePoint}
use Rattle.live_points.specs.Kinds.{AreKinds}
use Rattle.live_points.specs.Points.{point_of}
use Rattle.rv_exec.specs.Machine.{State}
use Rattle.rv_exec.specs.Runs.{run_of}
use Rattle.sample_design.specs.declared.design.Design.{Design}
use Rattle.sample_design.specs.Design.{IsUsable}
use Rattle.sample_design.specs.Units.{sampled_unit, window_of, EndsWithin}
use Rattle.warming.specs.declared.pass.Pass.{Pass}
use Rattle.warming.specs.Learning.{AreUsable}
use Rattle.warming.specs.Passing.{IsPassing, HasFields}

-- where the window of the p-th sampled unit begins
abbrev pub begin_of : Design → ℕ → ℕ
begin_of design p = (window_of design (sampled_unit design p)).start

-- the points of sampled units, in the order of the run
abbrev pub points_in_order : Header → State → ℕ → List LivePoint
points_in_order header start count =
    map (λ p. point_of header start (sampled_unit header.design p)) (range_with_len 0 count)

-- the run goes on to its length, and the units end within it
pub record CanCollect (start : State) (header : Header) : Type 0 where
  pub design : IsUsable header.design
  pub records : AreUsable header.records
  pub kinds : AreKinds header.records.kinds
  pub whole : (run_of start header.length).halt ≡ None
  pub short : header.length ≤ 2 ^ 36
  pub few : header.points ≤ 65536
  pub units : (p : ℕ) → p < header.points → EndsWithin header.design header.length (sampled_unit header.design p)

abbrev pub with_words : LivePoint → List (ℕ × ℕ) → LivePoint
with_words point words = record point { words = words }

-- a point whose window hasn't ended has no words yet
abbrev pub so_far : Bool → LivePoint → LivePoint
so_far true point = point
so_far false point = with_words point []

-- there is a point for each window that has started, and the next one hasn't begun
pub record IsCollecting (start : State) (header : Header) (pass : Pass) (points : List LivePoint) : Type 0 where
  pub passing : IsPassing start header.records (begin_of header.design) pass
  pub count : length pass.windows.windows ≡ length points
  pub order : pass.windows.ended ≤ length points
  pub most : length points ≤ header.points
  pub next : length points < header.points → pass.at ≤ begin_of header.design (length points)
  pub values :
      (p : ℕ) (d : LivePoint) → p < length points
      → slice_index_or points p d
      ≡ so_far (nat_lt p pass.windows.ended) (point_of header start (sampled_unit header.design p))
  pub fields : All HasFields points

-- a run whose points are collected
pub record IsUnderWay (header : Header) (pass : Pass) (points : List LivePoint) : Type 0 where
  pub start : State
  pub can : CanCollect start header
  pub way : IsCollecting start header pass points

-- Answers of points: they stand in the cells of a board.
use Rattle.std.proofs.Common.{◌≡◌, ◌<◌, ◌≤◌, ◌+◌, ◌-◌, ◌%◌, ◌^◌, ℕ, List, [], length, take, get_or, Bool, true, false, Option, Some, None, All, refl, ◌∙◌, arith}
use Rattle.std.specs.Prelude.{IfSome}
use Rattle.std.proofs.lemmas.Option.{slice_get-get_or}
use Rattle.confidence.specs.Sums.{IsCycles}
use Rattle.hierarchy.specs.declared.config.Config.{Config}
use Rattle.hierarchy.specs.declared.marked.Marked.{Marked}
use Rattle.hierarchy.specs.Config.{IsConfig}
use Rattle.hierarchy.specs.Marked.{IsMarked}
use Rattle.hierarchy.specs.Trace.{trace, marks, unless_halted}
use Rattle.hierarchy.proofs.MarkedLemmas.{marks_in_range}
use Rattle.hierarchy.proofs.TraceLemmas.{length-marks}
use Rattle.live_points.specs.declared.point.LivePoint.{LivePoint}
use Rattle.live_points.specs.PointAnswers.{machine_at, warm_at, point_answer}
use Rattle.ordered_fold.specs.Batch.{IsHeldAnswer}
use Rattle.ruu_timing.specs.declared.timed.Timed.{Timed}
use Rattle.ruu_timing.specs.Machine.{cycles_by}
use Rattle.ruu_timing.specs.Timed.{AreTimed}
use Rattle.ruu_timing.specs.Times.{cycles, times}
use Rattle.ruu_timing.proofs.ListLemmas.{each_of}
use Rattle.ruu_timing.proofs.ScalarLemmas.{scalar_within}
use Rattle.ruu_timing.proofs.TimesLemmas.{AreCycles, after_timed, cycles_between, retired_back}
use Rattle.rv_exec.specs.Event.{IsWellFormed}
use Rattle.rv_exec.specs.Machine.{State}
use Rattle.rv_exec.specs.Runs.{Halt, run_of}
use Rattle.rv_exec.proofs.RanLemmas.{events_are_steps}
use Rattle.rv_exec.proofs.RunsLemmas.{runs_whole}
use Rattle.sample_design.specs.declared.design.Design.{Design}
use Rattle.sample_design.specs.declared.units.Window.{Window}
use Rattle.sample_design.specs.Design.{IsUsable}
use Rattle.sample_design.specs.Units.{window_of}
use Rattle.unit_answers.specs.Answers.{answer_by, fault_of}
use Rattle.window_sim.specs.Desk.{Setup, IsServed, IsTaken}
use Rattle.window_sim.specs.NextPlaces.{IsPlace, halted_place}

-- a unit at the end of a trace takes cycles within the bounds of a unit
cycles_held :
    (ruu : Bool) (config : Config) (ms : List Marked) (skip : ℕ) → IsConfig config → skip + 16 ≤ length ms
    → length ms ≤ skip + 10000 → length ms ≤ 110000 → All IsMarked ms → IsCycles (cycles_by ruu config ms skip)
cycles_held true config ms skip is near far few marked =
    let rows : List Timed = times config.widths ms in
    let nothing : AreTimed [] = record { each = tt; order = tt; few = omega arith } in
    let timed : AreTimed rows =
    after_timed config.widths [] ms is.widths nothing (omega (arith, few)) (each_of IsMarked ms marked) in
    let between : AreCycles config.widths ms skip (retired_back rows 1 - retired_back (times config.widths (take skip ms)) 1) =
    cycles_between config.widths ms skip _ _ (omega (arith, near)) timed refl refl in
    let least : 1 ≤ cycles config.widths ms skip = rw between.cycles at (between.least near) in
    let most : cycles config.widths ms skip < 2 ^ 26 = rw between.cycles at (between.most far) in
    (omega (arith, least), most)
cycles_held false config ms skip is near far few marked =
    let within = scalar_within config.latencies ms skip is.latencies in
    (omega (arith, within.0, near), omega (arith, within.1, near, far))

-- the events of a run are well formed
run_formed : (m : State) (n : ℕ) → m.pc % 4 ≡ 0 → All IsWellFormed (run_of m n).events
run_formed m n at = λ k d below.
    (events_are_steps m n k (get_or (run_of m n).events k d) (slice_get-get_or (run_of m n).events k d below)).well_formed at

answer_held :
    (config : Config) (skip n : ℕ) (halt : Option Halt) (ms : List Marked) → IsConfig config
    → IfSome halt (λ h. IsPlace (fault_of h).pc) → (halt ≡ None → length ms ≡ n) → All IsMarked ms
    → skip + 16 ≤ n → n ≤ skip + 10000 → n ≤ 110000
    → IsHeldAnswer (answer_by config skip (unless_halted halt ms))
answer_held config skip n None ms is place whole marked near far few =
    let len : length ms ≡ n = whole refl in
    cycles_held config.ruu config ms skip is (omega (arith, len, near)) (omega (arith, len, far)) (omega (arith, len, few)) marked
answer_held config skip n (Some halt) ms is place whole marked near far few = place

-- how long windows are
pub record IsSized (window : Window) (longest : ℕ) : Type 0 where
  pub near : window.skip + 16 ≤ window.len
  pub far : window.len ≤ window.skip + 10000
  pub few : window.len ≤ longest
  pub most : longest ≤ 110000

pub window_sized : (design : Design) (unit : ℕ) → IsUsable design → IsSized (window_of design unit) (design.warm + design.unit)
window_sized design unit usable = record {
  near = omega (arith, usable.ranges.unit_least);
  far = omega (arith, usable.ranges.unit_most);
  few = omega arith;
  most = omega (arith, usable.ranges.unit_most, usable.ranges.warm_most);
}

pub point_held :
    (setup : Setup) (point : LivePoint) → IsServed setup × IsTaken setup point
    → IsHeldAnswer (point_answer setup.config setup.header point)
unfolding point_answer trace
point_held setup point (served, taken) =
    let window : Window = window_of setup.header.design point.unit in
    let m : State = machine_at setup.header point in
    let sized : IsSized window (setup.header.design.warm + setup.header.design.unit) =
    window_sized setup.header.design point.unit served.design in
    answer_held setup.config window.skip window.len (run_of m window.len).halt
    (marks setup.config.latencies (warm_at setup.config setup.header.records point) (run_of m window.len).events)
    served.config_is (halted_place m window.len taken.pc)
    (λ goes_on. length-marks setup.config.latencies _ (run_of m window.len).events ∙ runs_whole m window.len goes_on)
    (marks_in_range setup.config.latencies _ (run_of m window.len).events served.config_is.latencies (run_formed m window.len taken.of.pc))
    sized.near sized.far (omega (arith, sized.few, sized.most))

-- What a desk is set up for, and the points that it takes.
use Rattle.std.specs.Prelude.{◌≡◌, ◌<◌, ◌^◌, ℕ, None, slice_index}
use Rattle.confidence.specs.declared.answer.Answer.{Answer}
use Rattle.hierarchy.specs.declared.config.Config.{Config}
use Rattle.hierarchy.specs.Config.{IsConfig}
use Rattle.live_points.specs.declared.header.Header.{Header}
use Rattle.live_points.specs.declared.point.LivePoint.{LivePoint}
use Rattle.live_points.specs.Beyond.{IsWithin}
use Rattle.live_points.specs.Points.{point_of, IsPointOf}
use Rattle.live_points.specs.PointAnswers.{point_answer}
use Rattle.rv_exec.specs.Machine.{State}
use Rattle.rv_exec.specs.Runs.{run_of}
use Rattle.sample_design.specs.Design.{IsUsable}
use Rattle.sample_design.specs.Units.{EndsWithin}

-- the points of a header, on a processor
pub record Setup : Type 0 where
  pub header : Header
  pub config : Config

-- each number is in its range, and the records serve the processor
pub record IsServed (setup : Setup) : Type 0 where
  pub design : IsUsable setup.header.design
  pub config_is : IsConfig setup.config
  pub within : IsWithin setup.header.records setup.config

-- a point of the header. Its pc is a number of 32 bits, and its register 0 holds 0, as that of every machine does
pub record IsTaken (setup : Setup) (point : LivePoint) : Type 0 where
  pub of : IsPointOf setup.header point
  pub pc : point.pc < 2 ^ 32
  pub zero : slice_index point.regs 0 ≡ 0

abbrev pub answer_of : Setup → LivePoint → Answer
answer_of setup point = point_answer setup.config setup.header point

-- the point is that of a unit, which ends within a run from this start that goes on so far
pub record IsOfUnit (setup : Setup) (start : State) (length unit : ℕ) (point : LivePoint) : Type 0 where
  pub goes_on : (run_of start length).halt ≡ None
  pub heap_low : setup.header.heap_low ≡ start.heap_low
  pub ends : EndsWithin setup.header.design length unit
  pub of : point ≡ point_of setup.header start unit

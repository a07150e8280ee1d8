-- What the processor with a register update unit keeps of a run that it is shown.
use Rattle.std.specs.Prelude.{◌≡◌, ◌≤◌, ℕ, List, true, All}
use Rattle.circular_buffer.specs.Buffer.{keep_last}
use Rattle.hierarchy.specs.declared.config.Config.{Config}
use Rattle.hierarchy.specs.declared.marked.Marked.{Marked}
use Rattle.hierarchy.specs.declared.state.State.{State}
use Rattle.hierarchy.specs.declared.widths.Widths.{Widths}
use Rattle.hierarchy.specs.Marked.{IsMarked}
use Rattle.hierarchy.specs.Warming.{warmed}
use Rattle.rv_exec.specs.declared.event.Event.{Event}
use Rattle.turbosmarts.specs.Processor.{marks_of}

-- the caches and the predictor after all of them, and the latest marks, for windows of up to 110,000
-- instructions
pub record HasMarked (config : Config) (built : Widths) (warm : State) (longest : ℕ) (kept : List Marked) (events : List Event) : Type 0 where
  pub kind : config.ruu ≡ true
  pub widths : built ≡ config.widths
  pub room : longest ≤ 110000
  pub state : warm ≡ warmed config.places config.kind events
  pub latest : kept ≡ keep_last longest (marks_of config events)
  pub marks : All IsMarked kept

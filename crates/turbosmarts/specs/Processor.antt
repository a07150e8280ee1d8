-- What a processor has been shown of a run, and what it can tell of it.
use Rattle.std.specs.Prelude.{◌≡◌, ◌≤◌, ◌+◌, ◌++◌, ℕ, List, [], ◌∷◌, drop, length}
use Rattle.hierarchy.specs.declared.config.Config.{Config}
use Rattle.hierarchy.specs.declared.marked.Marked.{Marked}
use Rattle.hierarchy.specs.Trace.{marks}
use Rattle.hierarchy.specs.Warming.{warmed}
use Rattle.rv_exec.specs.Event.{IsWellFormed}
use Rattle.rv_exec.specs.Runs.{run_of}
use Rattle.rv_exec.specs.declared.event.Event.{Event}
use Rattle.rv_exec.specs.Machine.{State}
use Rattle.sample_design.specs.declared.units.Window.{Window}
use Rattle.ruu_timing.specs.Machine.{cycles_of}

-- the first so many instructions of a run
abbrev pub events_to : State → ℕ → List Event
events_to start n = (run_of start n).events

-- the marks of all instructions since the start
unfoldable pub marks_of : Config → List Event → List Marked
marks_of config events = marks config.latencies (warmed config.places config.kind []) events

-- the cycles of the unit at the end of a window that ends with the last of these instructions
unfoldable pub window_cycles : Config → List Event → Window → ℕ
window_cycles config events window =
    cycles_of config (drop window.start (marks_of config events)) window.skip

-- what was shown, and then this instruction, is what is now shown
abbrev pub IsShownMore : (ℕ → List Event → Type 0) → Event → (ℕ → List Event → Type 0) → Type 0
IsShownMore shown event now_shown =
    IsWellFormed event → (begun : ℕ) (es : List Event) → shown begun es → now_shown begun (es ++ event ∷ [])

-- the window ends with the last of these instructions, and its unit begins behind so many of them
pub record IsAtEnd (window : Window) (begun : ℕ) (events : List Event) : Type 0 where
  pub begins : begun ≡ window.start + window.skip
  pub ends : length events ≡ window.start + window.len

-- the window's unit has 16 to 10,000 instructions, and the window at most so many
pub record IsTimeable (window : Window) (longest : ℕ) : Type 0 where
  pub least : window.skip + 16 ≤ window.len
  pub most : window.len ≤ window.skip + 10000
  pub fits : window.len ≤ longest

-- what was shown ends with a window that can be timed
pub record CanTell (has_seen : ℕ → List Event → Type 0) (longest : ℕ) (window : Window) : Type 0 where
  pub begun : ℕ
  pub events : List Event
  pub shown : has_seen begun events
  pub end : IsAtEnd window begun events
  pub timeable : IsTimeable window longest

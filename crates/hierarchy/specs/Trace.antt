-- The marks of instructions, and the marked trace of a run.
use Rattle.std.specs.Prelude.{◌≡◌, ℕ, Option, Some, None, Result, Ok, Err, List, [], ◌∷◌}
use Rattle.rv_exec.specs.Machine as machine
use Rattle.rv_exec.specs.Runs.{Halt, run_of}
use Rattle.rv_exec.specs.declared.event.Event.{Event}
use Rattle.hierarchy.specs.declared.marked.Marked.{Marked}
use Rattle.hierarchy.specs.declared.state.State.{State}
use Rattle.hierarchy.specs.declared.widths.Latencies.{Latencies}
use Rattle.hierarchy.specs.State.{mark_of, after_event, after_events}

-- the marks of instructions, with the caches and the predictor as they are before the first
unfoldable pub marks : Latencies → State → List Event → List Marked
marks l s [] = []
marks l s (e ∷ es) = mark_of l s e ∷ marks l (after_event s e) es

abbrev pub unless_halted : Option Halt → List Marked → Result (List Marked) Halt
unless_halted None ms = Ok ms
unless_halted (Some halt) ms = Err halt

-- the marked trace of a run: the marks of all its instructions, or why they couldn't all be done
unfoldable pub trace : Latencies → State → machine.State → ℕ → Result (List Marked) Halt
trace l s m n = unless_halted (run_of m n).halt (marks l s (run_of m n).events)

-- so many instructions of a run from `start` were annotated, beginning with the caches and the
-- predictor `first`: their marks, the machine now, and caches and predictor now
pub record IsAnnotated (l : Latencies) (first : State) (start : machine.State) (n : ℕ) (ms : List Marked) (now : machine.State) (s : State) : Type 0 where
  pub trace_is : trace l first start n ≡ Ok ms
  pub machine_is : now ≡ (run_of start n).after
  pub state_is : s ≡ after_events first (run_of start n).events

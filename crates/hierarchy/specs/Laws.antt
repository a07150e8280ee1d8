-- Laws of marks and traces, and of the caches and the predictor that instructions leave.
use Rattle.std.specs.Prelude.{◌≡◌, ℕ, ◌+◌, ◌<◌, Some, None, Ok, Err, List, [], ◌++◌, drop, take, length, All}
use Rattle.lru_plain.specs.Shape.{Shape}
use Rattle.predictor.specs.declared.kind.PredictorKind.{PredictorKind}
use Rattle.rv_exec.specs.Machine as machine
use Rattle.rv_exec.specs.Machine.{Went, Stopped}
use Rattle.rv_exec.specs.Next.{next}
use Rattle.rv_exec.specs.Runs.{Trapped, AfterExit, run_of}
use Rattle.rv_exec.specs.Event.{IsWellFormed}
use Rattle.rv_exec.specs.declared.event.Event.{Event}
use Rattle.rv_exec.specs.declared.event.TrapKind.{TrapKind}
use Rattle.hierarchy.specs.declared.marked.Marked.{Marked}
use Rattle.hierarchy.specs.declared.places.Places.{Places}
use Rattle.hierarchy.specs.declared.state.State.{State}
use Rattle.hierarchy.specs.declared.widths.Latencies.{Latencies}
use Rattle.hierarchy.specs.Marked.{IsMarked}
use Rattle.hierarchy.specs.Widths.{AreLatencies}
use Rattle.hierarchy.specs.State.{after_events}
use Rattle.hierarchy.specs.Trace.{marks, trace, IsAnnotated}
use Rattle.hierarchy.specs.Warming.{warmed}

-- marks can be cut at any instruction
abbrev pub MarksSplit : Type 0
MarksSplit =
    (l : Latencies) (s : State) (es fs : List Event)
    → marks l s (es ++ fs) ≡ marks l s es ++ marks l (after_events s es) fs

-- caches and predictor that were fed one instruction after the other are those of the lists of
-- references
abbrev pub FeedingWarms : Type 0
FeedingWarms =
    (g : Places Shape) (kind : PredictorKind) (es fs : List Event)
    → after_events (warmed g kind es) fs ≡ warmed g kind (es ++ fs)

-- the trace of n instructions behind the first p of a run, with the caches and the predictor that
-- these leave, is the whole run's trace from there on
abbrev pub TracesSplit : Type 0
TracesSplit =
    (l : Latencies) (s : State) (m : machine.State) (p n : ℕ) (ms : List Marked)
    → trace l s m (p + n) ≡ Ok ms
    → trace l (after_events s (run_of m p).events) (run_of m p).after n ≡ Ok (drop p ms)

-- and the trace of the first p is its beginning
abbrev pub TracesBegin : Type 0
TracesBegin =
    (l : Latencies) (s : State) (m : machine.State) (p n : ℕ) (ms : List Marked)
    → trace l s m (p + n) ≡ Ok ms → trace l s m p ≡ Ok (take p ms)

-- so the trace of a window of n instructions, with the machine, the caches and the predictor as they
-- are at its start, is that part of the trace of the run that began with all of these empty
abbrev pub WindowsAreParts : Type 0
WindowsAreParts =
    (l : Latencies) (g : Places Shape) (kind : PredictorKind) (m : machine.State) (p n : ℕ) (ms : List Marked)
    → trace l (warmed g kind []) m (p + n) ≡ Ok ms
    → trace l (warmed g kind (run_of m p).events) (run_of m p).after n ≡ Ok (drop p ms)

-- before the first instruction nothing is annotated
abbrev pub NoneIsAnnotated : Type 0
NoneIsAnnotated =
    (l : Latencies) (s : State) (m : machine.State) → IsAnnotated l s m 0 [] m s

-- where the instruction that comes next traps, every longer trace is that trap
abbrev pub TracesTrap : Type 0
TracesTrap =
    (l : Latencies) (first s : State) (start now : machine.State) (n len : ℕ) (ms : List Marked) (kind : TrapKind)
    → IsAnnotated l first start n ms now s → now.exit ≡ None → next now ≡ Stopped kind → n < len
    → trace l first start len ≡ Err (Trapped (record { kind = kind; pc = now.pc }))

-- where the program has exited, every longer trace says so
abbrev pub TracesExit : Type 0
TracesExit =
    (l : Latencies) (first s : State) (start now : machine.State) (n len : ℕ) (ms : List Marked) (code : ℕ)
    → IsAnnotated l first start n ms now s → now.exit ≡ Some code → n < len
    → trace l first start len ≡ Err (AfterExit now.pc)

-- a trace has as many marks as it was asked for
abbrev pub TracesAreWhole : Type 0
TracesAreWhole =
    (l : Latencies) (s : State) (m : machine.State) (n : ℕ) (ms : List Marked)
    → trace l s m n ≡ Ok ms → length ms ≡ n

-- marks are in their ranges where the latencies are
abbrev pub MarksAreInRange : Type 0
MarksAreInRange =
    (l : Latencies) (s : State) (es : List Event) → AreLatencies l → All IsWellFormed es
    → All IsMarked (marks l s es)

pub record AreTraces : Type 0 where
  pub marks_split : MarksSplit
  pub marks_in_range : MarksAreInRange
  pub feeding : FeedingWarms
  pub traces_split : TracesSplit
  pub traces_begin : TracesBegin
  pub windows : WindowsAreParts
  pub none_annotated : NoneIsAnnotated
  pub traces_trap : TracesTrap
  pub traces_exit : TracesExit
  pub traces_whole : TracesAreWhole

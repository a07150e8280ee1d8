-- The answers of the units of a run: the cycles that each takes on a processor, or why it has none.
use Rattle.std.specs.Prelude.{ℕ, List, map, Result, Ok, Err}
use Rattle.confidence.specs.declared.answer.Answer.{Answer}
use Rattle.confidence.specs.declared.answer.Answer.TheVariants.{Cycles, Fault}
use Rattle.confidence.specs.declared.answer.PointFault.{PointFault}
use Rattle.confidence.specs.declared.answer.PointKind.{PointKind}
use Rattle.confidence.specs.declared.answer.PointKind.TheVariants as kinds
use Rattle.hierarchy.specs.declared.config.Config.{Config}
use Rattle.hierarchy.specs.declared.marked.Marked.{Marked}
use Rattle.hierarchy.specs.Trace.{trace}
use Rattle.hierarchy.specs.Warming.{warmed}
use Rattle.rv_exec.specs.Runs.{Halt, Trapped, AfterExit, run_of}
use Rattle.ruu_timing.specs.Machine.{cycles_of}
use Rattle.rv_exec.specs.declared.event.TrapKind.{TrapKind}
use Rattle.rv_exec.specs.declared.event.TrapKind.TheVariants as traps
use Rattle.rv_exec.specs.Machine.{State}
use Rattle.sample_design.specs.declared.design.Design.{Design}
use Rattle.sample_design.specs.Order.{order_of}
use Rattle.sample_design.specs.Units.{sampled_unit, window_of}

abbrev pub kind_of : TrapKind → PointKind
kind_of traps.Illegal = kinds.Illegal
kind_of traps.BadTarget = kinds.BadTarget
kind_of traps.MisalignedLoad = kinds.MisalignedLoad
kind_of traps.MisalignedStore = kinds.MisalignedStore
kind_of traps.Missing = kinds.Missing
kind_of traps.Break = kinds.Break
kind_of traps.BadBuffer = kinds.BadBuffer

-- the fault of a point whose run ended early
abbrev pub fault_of : Halt → PointFault
fault_of (Trapped trap) = record { kind = kind_of trap.kind; pc = trap.pc }
fault_of (AfterExit pc) = record { kind = kinds.AfterExit; pc = pc }

-- the answer that a trace gives, and the fault of one that couldn't be had
abbrev pub answer_by : Config → ℕ → Result (List Marked) Halt → Answer
answer_by config skip (Ok marks) = Cycles (cycles_of config marks skip)
answer_by config skip (Err halt) = Fault (fault_of halt)

-- The answer of a unit: its window is timed from the machine at the window's start, from plain caches that were
-- fed every reference up to there, and from a predictor that saw every branch and jump up to there.
unfoldable pub whole_answer : Config → State → Design → ℕ → Answer
whole_answer config start design unit =
    let window = window_of design unit in
    let before = run_of start window.start in
    answer_by config window.skip
    (trace config.latencies (warmed config.places config.kind before.events) before.after window.len)

-- the answers of the sampled units, in the order of visits
unfoldable pub unit_answers : Config → State → Design → ℕ → List Answer
unit_answers config start design count =
    map (λ p. whole_answer config start design (sampled_unit design p)) (order_of count design.seed)

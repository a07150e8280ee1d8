-- The answer of a window that was run and timed.
use Rattle.std.proofs.Common.{◌≡◌, ◌≤◌, ◌+◌, ◌*◌, ℕ, List, length, Result, Ok, Err, None, All, sym, ap, ◌∙◌, arith}
use Rattle.confidence.specs.declared.answer.Answer.{Answer}
use Rattle.confidence.specs.declared.answer.Answer.TheVariants.{Cycles, Fault}
use Rattle.confidence.specs.declared.answer.PointFault.{PointFault}
use Rattle.hierarchy.specs.declared.config.Config.{Config}
use Rattle.hierarchy.specs.declared.marked.Marked.{Marked}
use Rattle.hierarchy.specs.declared.state.State as warm
use Rattle.hierarchy.specs.Marked.{IsMarked}
use Rattle.hierarchy.specs.Trace.{trace}
use Rattle.live_points.specs.declared.header.Header.{Header}
use Rattle.live_points.specs.declared.point.LivePoint.{LivePoint}
use Rattle.live_points.specs.PointAnswers.{warm_at, machine_at, point_answer}
use Rattle.live_points.proofs.PointLemmas.{points_answer}
use Rattle.live_words.specs.Words.{memory_of}
use Rattle.ruu_timing.specs.Machine.{cycles_of}
use Rattle.ruu_timing.specs.Trace.{IsTrace}
use Rattle.rv_exec.specs.declared.state.Core.{Core}
use Rattle.rv_exec.specs.Machine.{State, state}
use Rattle.rv_exec.specs.Memory.{Words, Every}
use Rattle.rv_exec.specs.Runs.{Halt}
use Rattle.sample_design.specs.declared.units.Window.{Window}
use Rattle.sample_design.specs.Units.{window_of}
use Rattle.unit_answers.specs.Answers.{answer_by, whole_answer}
use Rattle.window_sim.specs.Desk.{Setup, IsServed, IsOfUnit}
use Rattle.window_sim.specs.HeldAnswers.{IsSized}
use Rattle.window_sim.specs.Marks.{marks_in, or_fault}
use Rattle.window_sim.proofs.MarksLemmas.{marks_in_length}

-- marks that were packed can be timed
pub packed_trace :
    (words : List ℕ) (window : Window) (longest : ℕ) → IsSized window longest → length words ≡ 2 * window.len
    → All IsMarked (marks_in words)
    → IsTrace (marks_in words) window.skip × (length (marks_in words) ≤ window.skip + 10000)
packed_trace words window longest sized room marked =
    let len : length (marks_in words) ≡ window.len = marks_in_length words ∙ omega (arith, room) in (
      record {
        within = omega (arith, len, sized.near);
        few = omega (arith, len, sized.few, sized.most);
        marks = marked;
      },
      omega (arith, len, sized.far),
    )

answer_timed :
    (config : Config) (skip : ℕ) (t : Result (List Marked) Halt) (ms : List Marked) → or_fault t ≡ Ok ms
    → answer_by config skip t ≡ Cycles (cycles_of config ms skip)
answer_timed config skip (Ok marks) ms is =
    let same : marks ≡ ms = cc in
    ap (λ (x : List Marked). Cycles (cycles_of config x skip)) same
answer_timed config skip (Err halt) ms is = absurd (cc)

answer_faulted :
    (config : Config) (skip : ℕ) (t : Result (List Marked) Halt) (fault : PointFault) → or_fault t ≡ Err fault
    → answer_by config skip t ≡ Fault fault
answer_faulted config skip (Ok marks) fault is = absurd (cc)
answer_faulted config skip (Err halt) fault is = cc

-- the machine that begins a window
pub record IsBegun (header : Header) (point : LivePoint) (core : Core) (words : Words) : Type 0 where
  pub pc : core.pc ≡ point.pc
  pub regs : core.regs ≡ point.regs
  pub brk : core.brk ≡ point.brk
  pub heap_low : core.heap_low ≡ header.heap_low
  pub exit : core.exit ≡ None
  pub words_are : words ≡ memory_of point.words

machine_begun :
    (header : Header) (point : LivePoint) (core : Core) (words : Words) → IsBegun header point core words
    → state core words Every ≡ machine_at header point
machine_begun header point core words begun = λ i. record {
  pc = begun.pc i;
  regs = begun.regs i;
  brk = begun.brk i;
  heap_low = begun.heap_low i;
  exit = begun.exit i;
  words = begun.words_are i;
  buffers = Every;
}

-- its trace is that of the point's answer
trace_begun :
    (header : Header) (config : Config) (point : LivePoint) (window : Window) (s : warm.State) (core : Core) (words : Words)
    → window ≡ window_of header.design point.unit → s ≡ warm_at config header.records point
    → IsBegun header point core words
    → answer_by config window.skip (trace config.latencies s (state core words Every) window.len)
    ≡ point_answer config header point
unfolding point_answer
trace_begun header config point window s core words is warms begun =
    let machine_is : state core words Every ≡ machine_at header point = machine_begun header point core words begun in
    λ i. answer_by config (is i).skip (trace config.latencies (warms i) (machine_is i) (is i).len)

pub window_timed :
    (header : Header) (config : Config) (point : LivePoint) (window : Window) (s : warm.State) (core : Core) (words : Words)
    (ms : List Marked) (n : ℕ)
    → window ≡ window_of header.design point.unit → s ≡ warm_at config header.records point
    → IsBegun header point core words
    → or_fault (trace config.latencies s (state core words Every) window.len) ≡ Ok ms
    → n ≡ cycles_of config ms window.skip → Cycles n ≡ point_answer config header point
window_timed header config point window s core words ms n is warms begun runs times =
    ap Cycles times ∙ sym (answer_timed config window.skip _ ms runs)
    ∙ trace_begun header config point window s core words is warms begun

pub window_faulted :
    (header : Header) (config : Config) (point : LivePoint) (window : Window) (s : warm.State) (core : Core) (words : Words)
    (fault : PointFault)
    → window ≡ window_of header.design point.unit → s ≡ warm_at config header.records point
    → IsBegun header point core words
    → or_fault (trace config.latencies s (state core words Every) window.len) ≡ Err fault
    → Fault fault ≡ point_answer config header point
window_faulted header config point window s core words fault is warms begun runs =
    sym (answer_faulted config window.skip _ fault runs)
    ∙ trace_begun header config point window s core words is warms begun

-- the answer of the point of a unit is the unit's
pub unit_answered :
    (setup : Setup) (point : LivePoint) (answer : Answer) (start : State) (length unit : ℕ) → IsServed setup
    → answer ≡ point_answer setup.config setup.header point → IsOfUnit setup start length unit point
    → answer ≡ whole_answer setup.config start setup.header.design unit
unit_answered setup point answer start length unit served is of =
    is
    ∙ ap (point_answer setup.config setup.header) of.of
    ∙ points_answer start length setup.header setup.config unit of.goes_on of.heap_low served.within
    (omega (arith, served.design.ranges.unit_least)) of.ends

-- The cycles of a window, from what was shown of the run up to its end.
use Rattle.std.proofs.Common.{◌≡◌, ◌≤◌, ◌+◌, ◌-◌, ◌*◌, ℕ, List, [], None, Ok, drop, refl, sym, ap, ◌∙◌, arith}
use Rattle.confidence.specs.declared.answer.Answer.TheVariants.{Cycles}
use Rattle.hierarchy.specs.declared.config.Config.{Config}
use Rattle.hierarchy.specs.declared.state.State as hierarchy
use Rattle.hierarchy.specs.Trace.{trace}
use Rattle.hierarchy.specs.Warming.{warmed}
use Rattle.rv_exec.specs.Runs.{run_of}
use Rattle.hierarchy.proofs.TraceLemmas.{traces_split}
use Rattle.hierarchy.proofs.WarmingLemmas.{feeding}
use Rattle.rv_exec.proofs.RunsLemmas.{runs_whole}
use Rattle.rv_exec.specs.declared.event.Event.{Event}
use Rattle.rv_exec.specs.Machine.{State}
use Rattle.sample_design.specs.declared.design.Design.{Design}
use Rattle.sample_design.specs.declared.units.Window.{Window}
use Rattle.sample_design.specs.Design.{IsUsable}
use Rattle.sample_design.specs.Units.{window_of}
use Rattle.turbosmarts.specs.Measuring.{HasShown}
use Rattle.turbosmarts.specs.Processor.{events_to, marks_of, window_cycles, IsAtEnd, IsTimeable, CanTell}
use Rattle.ruu_timing.specs.Machine.{cycles_of}
use Rattle.unit_answers.specs.Answers.{answer_by, whole_answer}

-- the marks of a run that can be done are its trace
traced :
    (config : Config) (start : State) (n : ℕ) → (run_of start n).halt ≡ None
    → trace config.latencies (warmed config.places config.kind []) start n ≡ Ok (marks_of config (events_to start n))
unfolding trace marks_of
traced config start n done = rw done refl

-- the trace of a window, from the caches and the predictor before it, is the end of the run's
window_traced :
    (config : Config) (start : State) (from len : ℕ) → (run_of start (from + len)).halt ≡ None
    → trace config.latencies (warmed config.places config.kind (events_to start from)) (run_of start from).after len
    ≡ Ok (drop from (marks_of config (events_to start (from + len))))
window_traced config start from len done =
    let before : List Event = events_to start from in
    ap (λ (s : hierarchy.State). trace config.latencies s (run_of start from).after len)
    (sym (feeding config.places config.kind [] before))
    ∙ traces_split config.latencies (warmed config.places config.kind []) start from len _
    (traced config start (from + len) done)

window_ends : (first warm unit : ℕ) → first - warm + (first - (first - warm) + unit) ≡ first + unit
window_ends first warm unit = omega arith

-- what is told of a unit at its end is its answer
pub unit_told :
    (config : Config) (start : State) (design : Design) (unit n c : ℕ)
    → n ≡ unit * design.unit + design.unit → (run_of start n).halt ≡ None
    → c ≡ window_cycles config (events_to start n) (window_of design unit)
    → whole_answer config start design unit ≡ Cycles c
unfolding whole_answer window_cycles
unit_told config start design unit n c whole done is =
    let window : Window = window_of design unit in
    let ends : window.start + window.len ≡ n =
    window_ends (unit * design.unit) design.warm design.unit ∙ sym whole in
    let ran : (run_of start (window.start + window.len)).halt ≡ None =
    ap (λ (k : ℕ). (run_of start k).halt) ends ∙ done in
    ap (answer_by config window.skip) (window_traced config start window.start window.len ran)
    ∙ ap (λ (k : ℕ). Cycles (cycles_of config (drop window.start (marks_of config (events_to start k))) window.skip)) ends
    ∙ ap Cycles (sym is)

-- the window of a unit that has just ended, where the unit's first instructions were shown
pub at_end :
    (start : State) (design : Design) (unit n : ℕ)
    → n ≡ unit * design.unit + design.unit → (run_of start n).halt ≡ None
    → IsAtEnd (window_of design unit) (unit * design.unit) (events_to start n)
at_end start design unit n whole done = record {
  begins = omega arith;
  ends = runs_whole start n done ∙ whole ∙ sym (window_ends (unit * design.unit) design.warm design.unit);
}

-- a unit's window can be timed where so long a window can
pub can_time :
    (design : Design) (unit longest : ℕ) → IsUsable design → design.warm + design.unit ≤ longest
    → IsTimeable (window_of design unit) longest
can_time design unit longest usable fits = record {
  least = omega (arith, usable.ranges.unit_least);
  most = omega (arith, usable.ranges.unit_most);
  fits = omega (arith, fits);
}

-- a processor that was shown a whole unit can tell its cycles
pub can_tell :
    (shown : ℕ → List Event → Type 0) (start : State) (design : Design) (unit ran longest : ℕ)
    → IsUsable design → design.warm + design.unit ≤ longest → ran ≡ design.unit
    → HasShown (λ n. shown (unit * design.unit) (events_to start n)) start (unit * design.unit + ran)
    → CanTell shown longest (window_of design unit)
can_tell shown start design unit ran longest usable fits whole part = record {
  begun = unit * design.unit;
  events = events_to start (unit * design.unit + ran);
  shown = part.shown;
  end = at_end start design unit (unit * design.unit + ran) (ap (λ (n : ℕ). unit * design.unit + n) whole) part.done;
  timeable = can_time design unit longest usable fits;
}

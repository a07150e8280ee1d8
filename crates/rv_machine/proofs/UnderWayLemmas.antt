-- How a run goes on and ends, from the machine that it has come to. Whoever calls `advance` in a
-- loop of its own cites these.
use Rattle.std.proofs.Common.{◌≡◌, ◌<◌, ◌≤◌, ◌+◌, ℕ, Bool, true, false, List, [], ◌++◌, Option, Some, None, Ok, Err, refl, sym, ap, ◌∙◌, arith, add-one, append_assoc, inl, inr}
use Rattle.std.proofs.lemmas.Bool.{cases_lt}
use Rattle.std.proofs.lemmas.List.{append-nil}
use Rattle.smarts_base.specs.Least.{least_below}
use Rattle.smarts_base.proofs.Leasts.{least_below_some, least_below_none}
use Rattle.rv_exec.specs.declared.event.Event.{Event}
use Rattle.rv_exec.specs.declared.event.Trap as rust
use Rattle.rv_exec.specs.Machine as step
use Rattle.rv_exec.specs.Machine.{State, Went, Stopped}
use Rattle.rv_exec.specs.Next.{next}
use Rattle.rv_machine.specs.declared.outcome.Outcome.TheVariants.{Exited, Trapped, Spent}
use Rattle.rv_machine.specs.declared.outcome.MachineFault.TheVariants.{Trap}
use Rattle.rv_machine.specs.Output.{buffer_bytes, step_output, output_after}
use Rattle.rv_machine.specs.Machine.{Machine, output_with, machine_after, Advances, IsUnderWay}
use Rattle.rv_exec.specs.Runs.{run_of, state_after, step_at}
use Rattle.rv_exec.proofs.RunsLemmas.{moved, state_behind}
use Rattle.rv_machine.specs.Outcome.{is_last, ended_by, ended_at, outcome_of}

output_twice :
    (keeps : Bool) (output one other : List ℕ)
    → output_with keeps (output_with keeps output one) other ≡ output_with keeps output (one ++ other)
output_twice true output one other = append_assoc output one other
output_twice false output one other = refl

output_none : (keeps : Bool) (output : List ℕ) → output_with keeps output [] ≡ output
output_none true output = append-nil output
output_none false output = refl

same_machine :
    (m : Machine) (s : State) (keeps : Bool) (output : List ℕ)
    → m.state ≡ s → m.keeps ≡ keeps → m.output ≡ output
    → m ≡ record { state = s; keeps = keeps; output = output }
same_machine m s keeps output a b c = rw (← a, ← b, ← c) refl

moved_on :
    (exit : Option ℕ) (outcome : step.Outcome) (event : Event) (before after : State)
    → exit ≡ None → outcome ≡ Went event after → moved exit outcome before ≡ after
moved_on exit outcome event before after running went = rw (running, went) refl

step_output_by :
    (exit : Option ℕ) (outcome : step.Outcome) (event : Event) (after : State)
    → exit ≡ None → outcome ≡ Went event after
    → step_output exit outcome ≡ buffer_bytes after.words event.wrote
step_output_by exit outcome event after running went = rw (running, went) refl

-- a run begins at its start
pub at_start : (start : Machine) → start.state.exit ≡ None → IsUnderWay start 0 start
unfolding run_of output_after
at_start start running = record {
  machine = same_machine start start.state start.keeps _ refl refl
      (sym (output_none start.keeps start.output));
  running = running;
  goes_on = λ k h. absurd (omega arith);
}

-- what the next instruction leads to is what that of the number leads to
pub step_here :
    (start now : Machine) (at : ℕ)
    → IsUnderWay start at now → step_at start.state at ≡ next now.state
step_here start now at way = ap (λ (m : Machine). next m.state) (sym way.machine)

-- the machine behind an instruction that is done
pub advanced :
    (start old new : Machine) (at : ℕ) (event : Event)
    → IsUnderWay start at old → Advances old (Ok event) new → new ≡ machine_after start (at + 1)
unfolding output_after
advanced start old new at event way step =
    let here : state_after start.state at ≡ old.state = ap (λ (m : Machine). m.state) (sym way.machine) in
    let exit : (state_after start.state at).exit ≡ None = ap (λ (s : State). s.exit) here ∙ way.running in
    let went : next (state_after start.state at) ≡ Went event new.state = ap next here ∙ step.0 in
    let keeps : old.keeps ≡ start.keeps = ap (λ (m : Machine). m.keeps) way.machine in
    let output : old.output ≡ output_with start.keeps start.output (output_after start.state at) =
    ap (λ (m : Machine). m.output) way.machine in
    let before : List ℕ = output_after start.state at in
    let bytes : List ℕ = buffer_bytes new.state.words event.wrote in
    let all : before ++ bytes ≡ output_after start.state (at + 1) =
    rw add-one (ap (λ (b : List ℕ). before ++ b) (sym (step_output_by _ _ event new.state exit went))) in
    same_machine new _ start.keeps _
    (sym (state_behind start.state at ∙ moved_on _ _ event _ new.state exit went))
    (step.1 ∙ keeps)
    (step.2
    ∙ ap (λ (k : Bool). output_with k old.output bytes) keeps
    ∙ ap (λ (o : List ℕ). output_with start.keeps o bytes) output
    ∙ output_twice start.keeps start.output before bytes
    ∙ ap (λ (o : List ℕ). output_with start.keeps start.output o) all)

pub goes_on :
    (start old new : Machine) (at : ℕ) (event : Event)
    → IsUnderWay start at old → Advances old (Ok event) new → new.state.exit ≡ None
    → IsUnderWay start (at + 1) new
goes_on start old new at event way step running = record {
  machine = advanced start old new at event way step;
  running = running;
  goes_on =
      λ k h.
      elim (cases_lt k at) [
        | inl lt ↦ way.goes_on k lt
        | inr ge ↦
            let same : k ≡ at = omega arith in
            rw (same, step_here start old at way, step.0, running) refl
      ];
}

-- the instruction of that number is the first that exits or traps
ends :
    (start now : Machine) (budget at : ℕ)
    → IsUnderWay start at now → at < budget → is_last (next now.state) ≡ true
    → outcome_of start.state budget ≡ ended_by at now.state.pc (next now.state)
unfolding outcome_of
ends start now budget at way below last =
    let found : least_below budget (λ n. is_last (step_at start.state n)) ≡ Some at =
    least_below_some budget at (λ n. is_last (step_at start.state n)) below
    (ap is_last (step_here start now at way) ∙ last) way.goes_on in
    ap (ended_at start.state) found
    ∙ ap (λ (m : Machine). ended_by at m.state.pc (next m.state)) (sym way.machine)

pub exits :
    (start old new : Machine) (budget at code : ℕ) (event : Event)
    → IsUnderWay start at old → at < budget → Advances old (Ok event) new
    → new.state.exit ≡ Some code
    → Exited code (at + 1) ≡ outcome_of start.state budget
exits start old new budget at code event way below step exit =
    sym (ends start old budget at way below (rw (step.0, exit) refl) ∙ (rw (step.0, exit) refl))

pub traps :
    (start old new : Machine) (budget at : ℕ) (trap : rust.Trap)
    → IsUnderWay start at old → at < budget → Advances old (Err (Trap trap)) new
    → Trapped at trap ≡ outcome_of start.state budget
traps start old new budget at trap way below step =
    sym (ends start old budget at way below (rw step.0 refl) ∙ (rw (step.0, ← step.1) refl))

pub is_spent :
    (start now : Machine) (budget at : ℕ)
    → IsUnderWay start at now → budget ≤ at → Spent ≡ outcome_of start.state budget
unfolding outcome_of
is_spent start now budget at way all =
    sym (ap (ended_at start.state)
    (least_below_none budget (λ n. is_last (step_at start.state n))
    (λ k h. way.goes_on k (omega arith))))

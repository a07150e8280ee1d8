-- A run that has ended stays where it is.
use Rattle.std.proofs.Common.{◌≡◌, ◌≤◌, ◌+◌, ◌-◌, ℕ, zero, suc, List, [], ◌++◌, Option, Some, None, refl, sym, ap, ◌∙◌, arith}
use Rattle.std.proofs.lemmas.List.{append-nil}
use Rattle.rv_exec.specs.declared.event.TrapKind.{TrapKind}
use Rattle.rv_exec.specs.Machine as step
use Rattle.rv_exec.specs.Machine.{State, Stopped}
use Rattle.rv_exec.specs.Next.{next}
use Rattle.rv_machine.specs.Machine.{Machine, machine_after, IsUnderWay}
use Rattle.rv_exec.specs.Runs.{state_after}
use Rattle.rv_exec.proofs.RunsLemmas.{moved, state_behind}
use Rattle.rv_machine.specs.Output.{step_output, output_after}

-- the machine has exited, or its next instruction traps
record IsHalted (s : State) : Type 0 where
  pub state : moved s.exit (next s) s ≡ s
  pub output : step_output s.exit (next s) ≡ []

stopped :
    (exit : Option ℕ) (outcome : step.Outcome) (kind : TrapKind) (s : State)
    → exit ≡ None → outcome ≡ Stopped kind → moved exit outcome s ≡ s
stopped exit outcome kind s running is = rw (running, is) refl

nothing_written :
    (exit : Option ℕ) (outcome : step.Outcome) (kind : TrapKind)
    → exit ≡ None → outcome ≡ Stopped kind → step_output exit outcome ≡ []
nothing_written exit outcome kind running is = rw (running, is) refl

trapped : (s : State) (kind : TrapKind) → s.exit ≡ None → next s ≡ Stopped kind → IsHalted s
trapped s kind running is = record {
  state = stopped s.exit (next s) kind s running is;
  output = nothing_written s.exit (next s) kind running is;
}

gone : (exit : Option ℕ) (outcome : step.Outcome) (code : ℕ) (s : State) → exit ≡ Some code → moved exit outcome s ≡ s
gone exit outcome code s is = rw is refl

silent : (exit : Option ℕ) (outcome : step.Outcome) (code : ℕ) → exit ≡ Some code → step_output exit outcome ≡ []
silent exit outcome code is = rw is refl

exited : (s : State) (code : ℕ) → s.exit ≡ Some code → IsHalted s
exited s code is = record {
  state = gone s.exit (next s) code s is;
  output = silent s.exit (next s) code is;
}

stays :
    (start : State) (n more : ℕ) → IsHalted (state_after start n)
    → (state_after start (n + more) ≡ state_after start n)
    × (output_after start (n + more) ≡ output_after start n)
unfolding output_after
stays start n zero halted =
    let same : n + zero ≡ n = omega arith in
    (ap (state_after start) same, ap (output_after start) same)
stays start n (suc more) halted =
    let one : n + suc more ≡ suc (n + more) = omega arith in
    let next_one : n + suc more ≡ n + more + 1 = omega arith in
    let before = stays start n more halted in (
      ap (state_after start) next_one
          ∙ state_behind start (n + more)
          ∙ ap (λ (s : State). moved s.exit (next s) s) before.0
          ∙ halted.state,
      rw one (ap (λ (s : State). output_after start (n + more) ++ step_output s.exit (next s)) before.0
          ∙ ap (λ (b : List ℕ). output_after start (n + more) ++ b) halted.output
          ∙ append-nil (output_after start (n + more)) ∙ before.1),
    )

stays_until :
    (start : Machine) (n budget : ℕ) → n ≤ budget → IsHalted (state_after start.state n)
    → machine_after start n ≡ machine_after start budget
stays_until start n budget within halted =
    let all : budget ≡ n + (budget - n) = omega arith in
    let same = stays start.state n (budget - n) halted in
    rw (all, same.0, same.1) refl

-- the machine of a run that has exited is that of the whole budget
pub stays_exited :
    (start now : Machine) (n budget code : ℕ)
    → now ≡ machine_after start n → n ≤ budget → now.state.exit ≡ Some code
    → now ≡ machine_after start budget
stays_exited start now n budget code is within exit =
    is ∙ stays_until start n budget within
    (exited (state_after start.state n) code (ap (λ (m : Machine). m.state.exit) (sym is) ∙ exit))

-- and so is that of a run whose next instruction traps
pub stays_trapped :
    (start now : Machine) (at budget : ℕ) (kind : TrapKind)
    → IsUnderWay start at now → at ≤ budget → next now.state ≡ Stopped kind
    → now ≡ machine_after start budget
stays_trapped start now at budget kind way within is =
    way.machine ∙ stays_until start at budget within
    (trapped (state_after start.state at) kind
    (ap (λ (m : Machine). m.state.exit) (sym way.machine) ∙ way.running)
    (ap (λ (m : Machine). next m.state) (sym way.machine) ∙ is))

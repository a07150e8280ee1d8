-- A machine with what its program wrote, and one instruction of it.
use Rattle.std.specs.Prelude.{◌≡◌, ◌<◌, ℕ, Bool, true, false, if◌then◌else◌, List, [], ◌++◌, length, None, Result, Ok, Err}
use Rattle.elf_image.specs.Image.{ImageValue}
use Rattle.rv_exec.specs.declared.event.Event.{Event}
use Rattle.rv_exec.specs.Event.{IsWellFormed}
use Rattle.rv_exec.specs.Machine.{State, Went, Stopped}
use Rattle.rv_exec.specs.Next.{next}
use Rattle.rv_exec.specs.Runs.{state_after, step_at}
use Rattle.rv_machine.specs.declared.outcome.MachineFault.{MachineFault}
use Rattle.rv_machine.specs.declared.outcome.MachineFault.TheVariants.{Trap, NoMemory}
use Rattle.rv_machine.specs.Outcome.{is_last}
use Rattle.rv_machine.specs.Output.{buffer_bytes, step_output, output_after}
use Rattle.rv_machine.specs.Start.{start_of}

pub record Machine : Type 0 where
  pub state : State
  -- whether the output is kept
  pub keeps : Bool
  pub output : List ℕ

-- the output with further bytes, where it is kept
abbrev pub output_with : Bool → List ℕ → List ℕ → List ℕ
output_with keeps output bytes = if keeps then output ++ bytes else output

-- the machine that an image starts
abbrev pub started : ImageValue → Bool → Machine
started image keeps = record { state = start_of image; keeps = keeps; output = [] }

-- the machine after so many instructions
abbrev pub machine_after : Machine → ℕ → Machine
machine_after start n = record {
  state = state_after start.state n;
  keeps = start.keeps;
  output = output_with start.keeps start.output (output_after start.state n);
}

-- the instruction adds at least one byte to an output that is kept
pub record WantsMemory (machine : Machine) : Type 0 where
  pub keeps : machine.keeps ≡ true
  pub writes : 0 < length (step_output None (next machine.state))

-- what the answer to one instruction tells of the machine before and after it. At a fault it is as
-- it was
abbrev pub Advances : Machine → Result Event MachineFault → Machine → Type 0
Advances old (Ok event) new = (next old.state ≡ Went event new.state)
    × (new.keeps ≡ old.keeps)
    × (new.output ≡ output_with old.keeps old.output (buffer_bytes new.state.words event.wrote))
Advances old (Err (Trap trap)) new = (next old.state ≡ Stopped trap.kind)
    × (trap.pc ≡ old.state.pc) × (new ≡ old)
Advances old (Err NoMemory) new = WantsMemory old × (new ≡ old)

-- the instruction was done, and its event was shown
pub record AdvancesShown (old new : Machine) (IsShown : Event → Type 0) : Type 0 where
  pub event : Event
  pub advances : Advances old (Ok event) new
  pub well_formed : IsWellFormed event
  pub shown : IsShown event

-- the same of an answer that leaves the event to an observer
abbrev pub AdvancesWith : Machine → Result Unit MachineFault → Machine → (Event → Type 0) → Type 0
AdvancesWith old (Ok done) new IsShown = AdvancesShown old new IsShown
AdvancesWith old (Err fault) new IsShown = Advances old (Err fault) new

-- what holds where the instruction trapped
abbrev pub OnTrap : Result Unit MachineFault → Type 0 → Type 0
OnTrap (Ok done) Holds = Unit {0}
OnTrap (Err (Trap trap)) Holds = Holds
OnTrap (Err NoMemory) Holds = Unit {0}

-- the run has come to the instruction of that number: none before it exited or trapped
pub record IsUnderWay (start : Machine) (at : ℕ) (now : Machine) : Type 0 where
  pub machine : now ≡ machine_after start at
  pub running : now.state.exit ≡ None
  pub goes_on : (k : ℕ) → k < at → is_last (step_at start.state k) ≡ false

-- memory for the output was wanted by an instruction below the budget; the machine stands before it
pub record StandsBefore (start : Machine) (budget : ℕ) (now : Machine) : Type 0 where
  pub at : ℕ
  pub below : at < budget
  pub under_way : IsUnderWay start at now
  pub wants : WantsMemory now

-- A machine's state, and what one instruction leads to.
use Rattle.std.specs.Prelude.{◌≡◌, ℕ, zero, suc, List, slice_index, slice_set, Option, Result, Ok, Err}
use Rattle.rv_exec.specs.declared.event.Buffer.{Buffer}
use Rattle.rv_exec.specs.declared.event.Event.{Event}
use Rattle.rv_exec.specs.declared.event.TrapKind.{TrapKind}
use Rattle.rv_exec.specs.declared.event.Trap.{Trap}
use Rattle.rv_exec.specs.declared.state.Core.{Core}
use Rattle.rv_exec.specs.Memory.{Words, Buffers}

-- without the program's output, which the events tell
pub record State : Type 0 where
  pub pc : ℕ
  pub regs : List ℕ
  pub brk : ℕ
  pub heap_low : ℕ
  pub exit : Option ℕ
  pub words : Words
  pub buffers : Buffers

-- the state of a core over a memory
abbrev pub state : Core → Words → Buffers → State
state core words buffers = record {
  pc = core.pc;
  regs = core.regs;
  brk = core.brk;
  heap_low = core.heap_low;
  exit = core.exit;
  words = words;
  buffers = buffers;
}

-- register 0 reads 0, and what is written to it is lost
abbrev pub read : List ℕ → ℕ → ℕ
read regs zero = 0
read regs (suc r) = slice_index regs (suc r)

abbrev pub write : List ℕ → ℕ → ℕ → List ℕ
write regs zero value = regs
write regs (suc r) value = slice_set regs (suc r) value

-- what one instruction leads to
pub data Outcome : Type 0 where
  Went : (event : Event) (after : State) → Outcome
  Stopped : (kind : TrapKind) → Outcome

-- the answer of one instruction and the state after it follow from the outcome
abbrev pub Leads : Outcome → Result Event TrapKind → State → Type 0
Leads outcome (Ok event) after = outcome ≡ Went event after
Leads outcome (Err kind) after = outcome ≡ Stopped kind

-- the instruction was done: it led to this state, its event was shown, and the event's output is told
pub record Shows (outcome : Outcome) (after : State) (wrote : Option Buffer) (IsShown : Event → Type 0) : Type 0 where
  pub event : Event
  pub went : outcome ≡ Went event after
  pub output : event.wrote ≡ wrote
  pub shown : IsShown event

-- the same of an answer that tells the event's output, or a trap
abbrev pub LeadsShown : Outcome → Result (Option Buffer) TrapKind → State → (Event → Type 0) → Type 0
LeadsShown outcome (Ok wrote) after IsShown = Shows outcome after wrote IsShown
LeadsShown outcome (Err kind) after IsShown = outcome ≡ Stopped kind

-- the answer of a step and the state after it follow from the outcome. A trap leaves the state as
-- it was before
abbrev pub Follows : Outcome → State → Result Event Trap → State → Type 0
Follows outcome before (Ok event) after = outcome ≡ Went event after
Follows outcome before (Err trap) after =
    (outcome ≡ Stopped trap.kind) × (trap.pc ≡ before.pc) × (after ≡ before)

-- the same, where the event is shown and its output is told
abbrev pub FollowsShown : Outcome → State → Result (Option Buffer) Trap → State → (Event → Type 0) → Type 0
FollowsShown outcome before (Ok wrote) after IsShown = Shows outcome after wrote IsShown
FollowsShown outcome before (Err trap) after IsShown =
    (outcome ≡ Stopped trap.kind) × (trap.pc ≡ before.pc) × (after ≡ before)

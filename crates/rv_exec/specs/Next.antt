-- One step of the machine: its next state with the event of the instruction, or a trap.
use Rattle.std.specs.Prelude.{ℕ, Option, Some, None}
use Rattle.rv_isa.specs.declared.inst.Inst.{Inst}
use Rattle.rv_isa.specs.Decoding.{decode_of}
use Rattle.rv_exec.specs.declared.action.Action.{Action}
use Rattle.rv_exec.specs.declared.action.Action.TheVariants.{Compute, Load, Store, Branch, Jump, Pass, Call, Break}
use Rattle.rv_exec.specs.declared.event.TrapKind.TheVariants as trap
use Rattle.rv_exec.specs.Action.{action_of}
use Rattle.rv_exec.specs.Bytes.{size_of}
use Rattle.rv_exec.specs.Calls.{calls}
use Rattle.rv_exec.specs.Data.{data_at, loads, stores}
use Rattle.rv_exec.specs.Finish.{goes_on, computes, branches, jumps}
use Rattle.rv_exec.specs.Memory.{word_at}
use Rattle.rv_exec.specs.Machine.{State, Outcome, Stopped}

-- what doing an action leads to
abbrev pub perform : State → ℕ → Inst → Action → Outcome
perform s w i (Compute rd value) = computes s w i rd value None None
perform s w i (Load rd addr size signed) =
    loads (data_at s.words addr (size_of size) trap.MisalignedLoad) s w i rd addr size signed
perform s w i (Store addr size value) =
    stores (data_at s.words addr (size_of size) trap.MisalignedStore) s w i addr size value
perform s w i (Branch taken target) = branches s w i taken target
perform s w i (Jump rd target control) = jumps s w i rd target control
perform s w i Pass = goes_on s w i None None
perform s w i Call = calls s w i
perform s w i Break = Stopped trap.Break

-- a word that stands for an instruction
abbrev pub decoded : Option Inst → State → ℕ → Outcome
decoded None s w = Stopped trap.Illegal
decoded (Some i) s w = perform s w i (action_of s.pc s.regs i)

-- a word that was fetched
abbrev pub executed : Option ℕ → State → Outcome
executed None s = Stopped trap.Missing
executed (Some w) s = decoded (decode_of w) s w

-- the step of a machine that hasn't exited
unfoldable pub next : State → Outcome
next s = executed (word_at s.words s.pc) s

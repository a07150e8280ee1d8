-- How an instruction that is done ends: the event that tells of it, and where the next one stands.
use Rattle.std.specs.Prelude.{ℕ, ◌%◌, Bool, true, false, ◌==◌, if◌then◌else◌, Option, None}
use Rattle.rv_isa.specs.declared.inst.Inst.{Inst}
use Rattle.rv_isa.specs.Roles.{class_of, sources_of, dest_of}
use Rattle.rv_exec.specs.declared.event.Event.{Event}
use Rattle.rv_exec.specs.declared.event.DataRef.{DataRef}
use Rattle.rv_exec.specs.declared.event.Buffer.{Buffer}
use Rattle.rv_exec.specs.declared.event.Flow.{Flow}
use Rattle.rv_exec.specs.declared.event.Flow.TheVariants as flow
use Rattle.rv_exec.specs.declared.event.TrapKind.TheVariants as trap
use Rattle.rv_exec.specs.Word.{following}
use Rattle.rv_exec.specs.Machine.{State, Outcome, Went, Stopped, write}

-- what is told of an instruction that was done
abbrev pub event_of : ℕ → ℕ → Inst → Option DataRef → Flow → ℕ → Option Buffer → Event
event_of pc w i access control next wrote = record {
  pc = pc;
  fetched = w;
  class = class_of i;
  first = (sources_of i).0;
  second = (sources_of i).1;
  dest = dest_of i;
  access = access;
  control = control;
  next = next;
  wrote = wrote;
}

-- the instruction is done, and the next one stands at `next`. The state still has its own pc
unfoldable pub completes :
    State → ℕ → Inst → Option DataRef → Flow → ℕ → Option Buffer → Outcome
completes s w i access control next wrote =
    Went (event_of s.pc w i access control next wrote) (record s { pc = next })

-- the same, where the instruction behind it comes next
unfoldable pub goes_on : State → ℕ → Inst → Option DataRef → Option Buffer → Outcome
goes_on s w i access wrote = completes s w i access flow.Straight (following s.pc) wrote

-- the same, with a value for rd
unfoldable pub computes :
    State → ℕ → Inst → ℕ → ℕ → Option DataRef → Option Buffer → Outcome
computes s w i rd value access wrote =
    goes_on (record s { regs = write s.regs rd value }) w i access wrote

-- a jump or a taken branch goes to a multiple of 4
unfoldable pub branches : State → ℕ → Inst → Bool → ℕ → Outcome
branches s w i false target =
    completes s w i None (flow.Branch false) (following s.pc) None
branches s w i true target =
    if target % 4 == 0 then completes s w i None (flow.Branch true) target None
    else Stopped trap.BadTarget

unfoldable pub jumps : State → ℕ → Inst → ℕ → ℕ → Flow → Outcome
jumps s w i rd target control =
    if target % 4 == 0 then
    completes (record s { regs = write s.regs rd (following s.pc) }) w i None control target None
    else Stopped trap.BadTarget

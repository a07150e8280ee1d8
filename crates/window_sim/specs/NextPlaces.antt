-- Where the instruction stands that comes next: at a number of 32 bits.
use Rattle.std.proofs.Common.{◌<◌, ◌+◌, ◌*◌, ◌/◌, ◌%◌, ◌^◌, ℕ, zero, suc, List, Bool, true, false, Option, Some, None, Result, Ok, Err, arith}
use Rattle.std.specs.Prelude.{◌==◌, ◌||◌, ◌&&◌, nat_le, if◌then◌else◌, IfSome, ℤ, pos, negsuc, ◌+ℤ◌}
use Rattle.rv_isa.specs.declared.inst.Inst.{Inst}
use Rattle.rv_isa.specs.declared.inst.Inst.TheVariants.{Jal, Jalr, Beq, Bne, Blt, Bge, Bltu, Bgeu}
use Rattle.rv_isa.specs.Decoding.{decode_of}
use Rattle.rv_exec.specs.declared.action.Action.{Action}
use Rattle.rv_exec.specs.declared.action.Action.TheVariants as action
use Rattle.rv_exec.specs.declared.action.Size.{Size}
use Rattle.rv_exec.specs.declared.event.Buffer.{Buffer}
use Rattle.rv_exec.specs.declared.event.DataRef.{DataRef}
use Rattle.rv_exec.specs.declared.event.Flow.{Flow}
use Rattle.rv_exec.specs.declared.event.TrapKind.{TrapKind}
use Rattle.rv_exec.specs.declared.event.TrapKind.TheVariants as trap
use Rattle.rv_exec.specs.Action.{action_of}
use Rattle.rv_exec.specs.Bytes.{size_of}
use Rattle.rv_exec.specs.Calls.{writes, exits, sets_break, calls}
use Rattle.rv_exec.specs.Data.{data_at, loads, stores}
use Rattle.rv_exec.specs.Finish.{completes, goes_on, computes, branches, jumps}
use Rattle.rv_exec.specs.Memory.{word_at, passes}
use Rattle.rv_exec.specs.Machine.{State, Outcome, Went, Stopped, read}
use Rattle.rv_exec.specs.Next.{perform, decoded, executed, next}
use Rattle.rv_exec.specs.Runs.{Run, run_of, steps}
use Rattle.rv_exec.specs.Word.{word, offset_by, following}
use Rattle.unit_answers.specs.Answers.{fault_of}

abbrev pub IsPlace : ℕ → Type 0
IsPlace pc = pc < 2 ^ 32

-- where an instruction is done, the next one stands at a place
abbrev pub IsPlaced : Outcome → Type 0
IsPlaced (Went e after) = IsPlace after.pc
IsPlaced (Stopped kind) = Unit {0}

placed_if : (test : Bool) (one other : Outcome) → IsPlaced one → IsPlaced other → IsPlaced (if test then one else other)
placed_if true one other first second = first
placed_if false one other first second = second

-- ---- targets

word_place : (n : ℤ) → IsPlace (word n)
word_place (pos n) = omega arith
word_place (negsuc n) = omega arith

even_place : (n : ℕ) → IsPlace n → IsPlace (n / 2 * 2)
even_place n h = omega (arith, h)

-- an action that goes elsewhere goes to a place
abbrev pub Targets : Action → Type 0
Targets (action.Compute rd value) = Unit {0}
Targets (action.Load rd addr size signed) = Unit {0}
Targets (action.Store addr size value) = Unit {0}
Targets (action.Branch taken target) = IsPlace target
Targets (action.Jump rd target control) = IsPlace target
Targets action.Pass = Unit {0}
Targets action.Call = Unit {0}
Targets action.Break = Unit {0}

targets : (pc : ℕ) (regs : List ℕ) (i : Inst) → Targets (action_of pc regs i)
targets pc regs (Jal rd imm) = word_place (pos pc +ℤ imm)
targets pc regs (Jalr rd rs1 imm) = even_place (offset_by (read regs rs1) imm) (word_place (pos (read regs rs1) +ℤ imm))
targets pc regs (Beq rs1 rs2 imm) = word_place (pos pc +ℤ imm)
targets pc regs (Bne rs1 rs2 imm) = word_place (pos pc +ℤ imm)
targets pc regs (Blt rs1 rs2 imm) = word_place (pos pc +ℤ imm)
targets pc regs (Bge rs1 rs2 imm) = word_place (pos pc +ℤ imm)
targets pc regs (Bltu rs1 rs2 imm) = word_place (pos pc +ℤ imm)
targets pc regs (Bgeu rs1 rs2 imm) = word_place (pos pc +ℤ imm)
targets pc regs _ = tt

-- ---- outcomes

placed_completes :
    (s : State) (w : ℕ) (i : Inst) (access : Option DataRef) (control : Flow) (behind : ℕ) (wrote : Option Buffer)
    → IsPlace behind → IsPlaced (completes s w i access control behind wrote)
unfolding completes
placed_completes s w i access control behind wrote h = h

following_place : (pc : ℕ) → IsPlace (following pc)
following_place pc = omega arith

placed_goes_on :
    (s : State) (w : ℕ) (i : Inst) (access : Option DataRef) (wrote : Option Buffer)
    → IsPlaced (goes_on s w i access wrote)
unfolding goes_on
placed_goes_on s w i access wrote = placed_completes s w i access _ _ wrote (following_place s.pc)

placed_computes :
    (s : State) (w : ℕ) (i : Inst) (rd value : ℕ) (access : Option DataRef) (wrote : Option Buffer)
    → IsPlaced (computes s w i rd value access wrote)
unfolding computes
placed_computes s w i rd value access wrote = placed_goes_on _ w i access wrote

placed_branches : (s : State) (w : ℕ) (i : Inst) (taken : Bool) (target : ℕ) → IsPlace target → IsPlaced (branches s w i taken target)
unfolding branches
placed_branches s w i false target h = placed_completes s w i None _ _ None (following_place s.pc)
placed_branches s w i true target h =
    placed_if (target % 4 == 0) _ _ (placed_completes s w i None _ target None h) tt

placed_jumps :
    (s : State) (w : ℕ) (i : Inst) (rd target : ℕ) (control : Flow) → IsPlace target
    → IsPlaced (jumps s w i rd target control)
unfolding jumps
placed_jumps s w i rd target control h =
    placed_if (target % 4 == 0) _ _ (placed_completes _ w i None control target None h) tt

placed_calls : (s : State) (w : ℕ) (i : Inst) → IsPlaced (calls s w i)
unfolding calls writes exits sets_break
placed_calls s w i =
    placed_if (read s.regs 17 == 64) _ _
    (placed_if ((read s.regs 10 == 1) || (read s.regs 10 == 2)) _ _
    (placed_if (read s.regs 12 == 0) _ _ (placed_computes s w i _ _ _ _)
    (placed_if (passes s.buffers (read s.regs 11) (read s.regs 12)) _ _ (placed_computes s w i _ _ _ _) tt))
    (placed_computes s w i _ _ _ _))
    (placed_if ((read s.regs 17 == 93) || (read s.regs 17 == 94)) _ _ (placed_goes_on _ w i _ _)
    (placed_if (read s.regs 17 == 214) _ _
    (placed_if (nat_le s.heap_low (read s.regs 10) && nat_le (read s.regs 10) (s.heap_low + 2 ^ 26)) _ _
    (placed_computes _ w i _ _ _ _) (placed_computes s w i _ _ _ _))
    (placed_computes s w i _ _ _ _)))

placed_loads :
    (found : Result ℕ TrapKind) (s : State) (w : ℕ) (i : Inst) (rd addr : ℕ) (size : Size) (signed : Bool)
    → IsPlaced (loads found s w i rd addr size signed)
placed_loads (Err kind) s w i rd addr size signed = tt
placed_loads (Ok before) s w i rd addr size signed = placed_computes s w i _ _ _ _

placed_stores :
    (found : Result ℕ TrapKind) (s : State) (w : ℕ) (i : Inst) (addr : ℕ) (size : Size) (value : ℕ)
    → IsPlaced (stores found s w i addr size value)
placed_stores (Err kind) s w i addr size value = tt
placed_stores (Ok before) s w i addr size value = placed_goes_on _ w i _ _

placed_perform : (s : State) (w : ℕ) (i : Inst) (a : Action) → Targets a → IsPlaced (perform s w i a)
placed_perform s w i (action.Compute rd value) h = placed_computes s w i rd value _ _
placed_perform s w i (action.Load rd addr size signed) h =
    placed_loads (data_at s.words addr (size_of size) trap.MisalignedLoad) s w i rd addr size signed
placed_perform s w i (action.Store addr size value) h =
    placed_stores (data_at s.words addr (size_of size) trap.MisalignedStore) s w i addr size value
placed_perform s w i (action.Branch taken target) h = placed_branches s w i taken target h
placed_perform s w i (action.Jump rd target control) h = placed_jumps s w i rd target control h
placed_perform s w i action.Pass h = placed_goes_on s w i _ _
placed_perform s w i action.Call h = placed_calls s w i
placed_perform s w i action.Break h = tt

placed_decoded : (i : Option Inst) (s : State) (w : ℕ) → IsPlaced (decoded i s w)
placed_decoded None s w = tt
placed_decoded (Some i) s w = placed_perform s w i (action_of s.pc s.regs i) (targets s.pc s.regs i)

placed_executed : (found : Option ℕ) (s : State) → IsPlaced (executed found s)
placed_executed None s = tt
placed_executed (Some w) s = placed_decoded (decode_of w) s w

pub placed_next : (s : State) → IsPlaced (next s)
unfolding next
placed_next s = placed_executed (word_at s.words s.pc) s

-- ---- runs

halted_by :
    (exit : Option ℕ) (outcome : Outcome) (m : State) (rest : State → Run) → IsPlace m.pc → IsPlaced outcome
    → ((after : State) → IsPlace after.pc → IfSome (rest after).halt (λ halt. IsPlace (fault_of halt).pc))
    → IfSome (steps exit outcome m rest).halt (λ halt. IsPlace (fault_of halt).pc)
halted_by (Some code) outcome m rest here placed more = here
halted_by None (Stopped kind) m rest here placed more = here
halted_by None (Went e after) m rest here placed more = more after placed

-- a run that ends early does so at a place
pub halted_place :
    (m : State) (n : ℕ) → IsPlace m.pc → IfSome (run_of m n).halt (λ halt. IsPlace (fault_of halt).pc)
unfolding run_of
halted_place m zero here = tt
halted_place m (suc n) here =
    halted_by m.exit (next m) m (λ after. run_of after n) here (placed_next m) (λ after h. halted_place after n h)

-- What a step that gives bytes to the output has done: a write call, whose answer is their number.
use Rattle.std.proofs.Common.{◌≡◌, ◌<◌, ◌+◌, ◌-◌, ◌%◌, ◌^◌, ℕ, Bool, true, false, refl, arith, Option, Some, None, Result, Ok, Err, subst}
use Rattle.std.specs.Prelude.{◌==◌, ◌||◌, ◌&&◌, nat_le, if◌then◌else◌, IfSome, slice_set}
use Rattle.std.proofs.lemmas.Bool.Decides.{nat_tests}
use Rattle.rv_isa.specs.declared.inst.Inst.{Inst}
use Rattle.rv_isa.specs.Decoding.{decode_of}
use Rattle.rv_exec.specs.declared.action.Action.{Action}
use Rattle.rv_exec.specs.declared.action.Action.TheVariants as action
use Rattle.rv_exec.specs.declared.action.Size.{Size}
use Rattle.rv_exec.specs.declared.event.Event.{Event}
use Rattle.rv_exec.specs.declared.event.DataRef.{DataRef}
use Rattle.rv_exec.specs.declared.event.Buffer.{Buffer}
use Rattle.rv_exec.specs.declared.event.Flow.{Flow}
use Rattle.rv_exec.specs.declared.event.TrapKind.{TrapKind}
use Rattle.rv_exec.specs.Word.{following}
use Rattle.rv_exec.specs.Memory.{word_at, passes}
use Rattle.rv_exec.specs.Machine.{State, Outcome, Went, Stopped, read}
use Rattle.rv_exec.specs.Action.{action_of}
use Rattle.rv_exec.specs.Calls.{calls, writes, exits, sets_break, answers}
use Rattle.rv_exec.specs.Data.{loads, stores}
use Rattle.rv_exec.specs.Finish.{completes, goes_on, computes, branches, jumps}
use Rattle.rv_exec.specs.Next.{perform, decoded, executed, next}

-- the state behind a write call of the buffer, which was made in the state s
pub record IsWrite (s : State) (b : Buffer) (after : State) : Type 0 where
  pub some : 0 < b.len
  pub covered : passes s.buffers b.addr b.len ≡ true
  pub state : after ≡ record s { pc = following s.pc; regs = slice_set s.regs 10 b.len }

abbrev WritesIfDone : State → Outcome → Type 0
WritesIfDone s (Went e after) = IfSome e.wrote (λ b. IsWrite s b after)
WritesIfDone s (Stopped kind) = Unit {0}

-- the same, as a record, so that its arguments are found
record Writes (s : State) (outcome : Outcome) : Type 0 where
  pub done : WritesIfDone s outcome

stopped : (s : State) (kind : TrapKind) → Writes s (Stopped kind)
stopped s kind = record { done = tt }

writes_if :
    (s : State) (test : Bool) (one other : Outcome)
    → (test ≡ true → Writes s one) → (test ≡ false → Writes s other)
    → Writes s (if test then one else other)
writes_if s true one other first second = first refl
writes_if s false one other first second = second refl

-- an instruction that writes nothing
none_completes :
    (s t : State) (w : ℕ) (i : Inst) (access : Option DataRef) (control : Flow) (behind : ℕ)
    → Writes s (completes t w i access control behind None)
unfolding completes
none_completes s t w i access control behind = record { done = tt }

none_goes_on :
    (s t : State) (w : ℕ) (i : Inst) (access : Option DataRef)
    → Writes s (goes_on t w i access None)
unfolding goes_on
none_goes_on s t w i access = none_completes s t w i access _ _

none_computes :
    (s t : State) (w : ℕ) (i : Inst) (rd value : ℕ) (access : Option DataRef)
    → Writes s (computes t w i rd value access None)
unfolding computes
none_computes s t w i rd value access = none_goes_on s _ w i access

none_branches :
    (s : State) (w : ℕ) (i : Inst) (taken : Bool) (target : ℕ)
    → Writes s (branches s w i taken target)
unfolding branches
none_branches s w i false target = none_completes s s w i None _ _
none_branches s w i true target =
    writes_if s (target % 4 == 0) _ _ (λ at. none_completes s s w i None _ _) (λ at. stopped s _)

none_jumps :
    (s : State) (w : ℕ) (i : Inst) (rd target : ℕ) (control : Flow)
    → Writes s (jumps s w i rd target control)
unfolding jumps
none_jumps s w i rd target control =
    writes_if s (target % 4 == 0) _ _ (λ at. none_completes s _ w i None control target)
    (λ at. stopped s _)

none_loads :
    (s : State) (w : ℕ) (i : Inst) (rd addr : ℕ) (size : Size) (signed : Bool)
    (found : Result ℕ TrapKind)
    → Writes s (loads found s w i rd addr size signed)
none_loads s w i rd addr size signed (Ok before) = none_computes s s w i rd _ _
none_loads s w i rd addr size signed (Err kind) = stopped s kind

none_stores :
    (s : State) (w : ℕ) (i : Inst) (addr : ℕ) (size : Size) (value : ℕ)
    (found : Result ℕ TrapKind)
    → Writes s (stores found s w i addr size value)
none_stores s w i addr size value (Ok before) = none_goes_on s _ w i _
none_stores s w i addr size value (Err kind) = stopped s kind

-- a write call
answers_bytes :
    (s : State) (w : ℕ) (i : Inst) (b : Buffer) → 0 < b.len → passes s.buffers b.addr b.len ≡ true
    → Writes s (answers s w i b.len (Some b))
unfolding computes goes_on completes
answers_bytes s w i b some covered =
    record { done = record { some = some; covered = covered; state = refl } }

writes_writes : (s : State) (w : ℕ) (i : Inst) → Writes s (writes s w i)
unfolding writes
writes_writes s w i =
    let addr = read s.regs 11 in
    let count = read s.regs 12 in
    writes_if s ((read s.regs 10 == 1) || (read s.regs 10 == 2)) _ _
    (λ known. writes_if s (count == 0) _ _
    (λ none. none_computes s s w i 10 0 None)
    (λ some. writes_if s (passes s.buffers addr count) _ _
    (λ covered. answers_bytes s w i (record { addr = addr; len = count })
    (grind (arith, nat_tests)) covered)
    (λ refused. stopped s _)))
    (λ unknown. none_computes s s w i 10 (2 ^ 32 - 9) None)

none_exits : (s : State) (w : ℕ) (i : Inst) → Writes s (exits s w i)
unfolding exits
none_exits s w i = none_goes_on s _ w i None

none_sets_break : (s : State) (w : ℕ) (i : Inst) → Writes s (sets_break s w i)
unfolding sets_break
none_sets_break s w i =
    let value = read s.regs 10 in
    writes_if s (nat_le s.heap_low value && nat_le value (s.heap_low + 2 ^ 26)) _ _
    (λ within. none_computes s _ w i 10 value None)
    (λ outside. none_computes s _ w i 10 s.brk None)

writes_calls : (s : State) (w : ℕ) (i : Inst) → Writes s (calls s w i)
unfolding calls
writes_calls s w i =
    let number = read s.regs 17 in
    writes_if s (number == 64) _ _ (λ write. writes_writes s w i)
    (λ other. writes_if s ((number == 93) || (number == 94)) _ _ (λ exit. none_exits s w i)
    (λ other. writes_if s (number == 214) _ _ (λ brk. none_sets_break s w i)
    (λ other. none_computes s s w i 10 (2 ^ 32 - 38) None)))

writes_perform : (s : State) (w : ℕ) (i : Inst) (a : Action) → Writes s (perform s w i a)
writes_perform s w i (action.Compute rd value) = none_computes s s w i rd value None
writes_perform s w i (action.Load rd addr size signed) = none_loads s w i rd addr size signed _
writes_perform s w i (action.Store addr size value) = none_stores s w i addr size value _
writes_perform s w i (action.Branch taken target) = none_branches s w i taken target
writes_perform s w i (action.Jump rd target control) = none_jumps s w i rd target control
writes_perform s w i action.Pass = none_goes_on s s w i None
writes_perform s w i action.Call = writes_calls s w i
writes_perform s w i action.Break = stopped s _

writes_decoded : (s : State) (w : ℕ) (found : Option Inst) → Writes s (decoded found s w)
writes_decoded s w None = stopped s _
writes_decoded s w (Some i) = writes_perform s w i (action_of s.pc s.regs i)

writes_executed : (s : State) (found : Option ℕ) → Writes s (executed found s)
writes_executed s None = stopped s _
writes_executed s (Some w) = writes_decoded s w (decode_of w)

-- a step whose event has a buffer is a write call of it
pub wrote :
    (s after : State) (e : Event) (b : Buffer)
    → next s ≡ Went e after → e.wrote ≡ Some b → IsWrite s b after
unfolding next
wrote s after e b went is =
    let P : Outcome → Type 0 = λ o. Writes s o in
    let Q : Option Buffer → Type 0 = λ o. IfSome o (λ b. IsWrite s b after) in
    subst Q is (subst P went (writes_executed s (word_at s.words s.pc))).done

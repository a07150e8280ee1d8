-- One instruction of a program whose words are known, by what it is to do.
use Rattle.std.proofs.Common.{◌≡◌, ◌<◌, ◌+◌, ◌-◌, ◌%◌, ◌^◌, ℕ, ℤ, Bool, true, false, Option, Some, None, Ok, refl, ap, ◌∙◌, arith, inl, inr, add-one}
use Rattle.std.specs.Prelude.{◌==◌, if◌then◌else◌}
use Rattle.std.proofs.lemmas.Bool.{cases_lt, eq-eqb}
use Rattle.std.proofs.lemmas.Int.{ints}
use Rattle.std.proofs.lemmas.Bool.Decides.{nat_tests}
use Rattle.rv_isa.specs.declared.inst.Inst.{Inst}
use Rattle.rv_isa.specs.declared.inst.Inst.TheVariants.{Lui, Addi, Andi, Add, Xor, And, Mul, Lw, Sw, Beq, Bne, Ecall}
use Rattle.rv_isa.specs.Decoding.{decode_of}
use Rattle.rv_isa.specs.Encoding.{word_of, word_of_row}
use Rattle.rv_isa.specs.Table.{R, I, S, B, U, Holds, InRange, IsWordOf, IsEncodable}
use Rattle.rv_isa.proofs.Rows.{decode_of_word}
use Rattle.rv_exec.specs.declared.action.Action.TheVariants as action
use Rattle.rv_exec.specs.declared.action.Size.TheVariants as size
use Rattle.rv_exec.specs.declared.event.Event.{Event}
use Rattle.rv_exec.specs.Word.{following}
use Rattle.rv_exec.specs.Memory.{Words, word_at, stored}
use Rattle.rv_exec.specs.declared.event.DataRef.{DataRef}
use Rattle.rv_exec.specs.declared.event.TrapKind.{TrapKind}
use Rattle.rv_exec.specs.Machine.{State, Outcome, Went, write}
use Rattle.rv_exec.specs.Action.{action_of}
use Rattle.rv_exec.specs.Data.{data_at}
use Rattle.rv_exec.specs.Data as meaning
use Rattle.rv_exec.specs.Finish.{completes, goes_on, computes, branches}
use Rattle.rv_exec.specs.Next.{perform, next}
use Rattle.rv_exec.specs.Runs.{state_after}
use Rattle.rv_exec.proofs.RunsLemmas.{moved, state_behind}
use Rattle.rv_machine.specs.Outcome.{Reaches}

-- ---- words and instructions

r_holds :
    (op third seventh rd rs1 rs2 : ℕ) → op < 2 ^ 7 → third < 2 ^ 3 → seventh < 2 ^ 7
    → InRange (R op third seventh rd rs1 rs2)
    → Holds (word_of_row (R op third seventh rd rs1 rs2)) (R op third seventh rd rs1 rs2)
r_holds op third seventh rd rs1 rs2 a b c h =
    (omega arith, omega arith, omega arith, omega arith, omega arith, omega arith)

i_holds :
    (op third rd rs1 : ℕ) (imm : ℤ) → op < 2 ^ 7 → third < 2 ^ 3
    → InRange (I op third rd rs1 imm) → Holds (word_of_row (I op third rd rs1 imm)) (I op third rd rs1 imm)
i_holds op third rd rs1 imm a b h =
    (omega arith, omega arith, omega arith, omega arith, grind (arith, ints, nat_tests))

s_holds :
    (op third rs1 rs2 : ℕ) (imm : ℤ) → op < 2 ^ 7 → third < 2 ^ 3
    → InRange (S op third rs1 rs2 imm) → Holds (word_of_row (S op third rs1 rs2 imm)) (S op third rs1 rs2 imm)
s_holds op third rs1 rs2 imm a b h =
    (omega arith, omega arith, omega arith, omega arith, grind (arith, ints, nat_tests))

b_holds :
    (op third rs1 rs2 : ℕ) (imm : ℤ) → op < 2 ^ 7 → third < 2 ^ 3
    → InRange (B op third rs1 rs2 imm) → Holds (word_of_row (B op third rs1 rs2 imm)) (B op third rs1 rs2 imm)
b_holds op third rs1 rs2 imm a b h =
    (omega arith, omega arith, omega arith, omega arith, grind (arith, ints, nat_tests))

u_holds :
    (op rd : ℕ) (imm : ℤ) → op < 2 ^ 7 → InRange (U op rd imm)
    → Holds (word_of_row (U op rd imm)) (U op rd imm)
u_holds op rd imm a h = (omega arith, omega arith, grind (arith, ints, nat_tests))

-- the instructions of the generated program, with fields in range
abbrev pub IsUsed : Inst → Type 0
IsUsed (Lui rd imm) = IsEncodable (Lui rd imm)
IsUsed (Addi rd rs1 imm) = IsEncodable (Addi rd rs1 imm)
IsUsed (Andi rd rs1 imm) = IsEncodable (Andi rd rs1 imm)
IsUsed (Add rd rs1 rs2) = IsEncodable (Add rd rs1 rs2)
IsUsed (Xor rd rs1 rs2) = IsEncodable (Xor rd rs1 rs2)
IsUsed (And rd rs1 rs2) = IsEncodable (And rd rs1 rs2)
IsUsed (Mul rd rs1 rs2) = IsEncodable (Mul rd rs1 rs2)
IsUsed (Lw rd rs1 imm) = IsEncodable (Lw rd rs1 imm)
IsUsed (Sw rs1 rs2 imm) = IsEncodable (Sw rs1 rs2 imm)
IsUsed (Beq rs1 rs2 imm) = IsEncodable (Beq rs1 rs2 imm)
IsUsed (Bne rs1 rs2 imm) = IsEncodable (Bne rs1 rs2 imm)
IsUsed Ecall = Unit {0}
IsUsed other = ⊥

holds : (i : Inst) → IsUsed i → IsWordOf (word_of i) i
holds (Lui rd imm) h = u_holds 0x37 rd imm (omega arith) h
holds (Addi rd rs1 imm) h = i_holds 0x13 0 rd rs1 imm (omega arith) (omega arith) h
holds (Andi rd rs1 imm) h = i_holds 0x13 7 rd rs1 imm (omega arith) (omega arith) h
holds (Add rd rs1 rs2) h = r_holds 0x33 0 0 rd rs1 rs2 (omega arith) (omega arith) (omega arith) h
holds (Xor rd rs1 rs2) h = r_holds 0x33 4 0 rd rs1 rs2 (omega arith) (omega arith) (omega arith) h
holds (And rd rs1 rs2) h = r_holds 0x33 7 0 rd rs1 rs2 (omega arith) (omega arith) (omega arith) h
holds (Mul rd rs1 rs2) h = r_holds 0x33 0 1 rd rs1 rs2 (omega arith) (omega arith) (omega arith) h
holds (Lw rd rs1 imm) h = i_holds 0x03 2 rd rs1 imm (omega arith) (omega arith) h
holds (Sw rs1 rs2 imm) h = s_holds 0x23 2 rs1 rs2 imm (omega arith) (omega arith) h
holds (Beq rs1 rs2 imm) h = b_holds 0x63 0 rs1 rs2 imm (omega arith) (omega arith) h
holds (Bne rs1 rs2 imm) h = b_holds 0x63 1 rs1 rs2 imm (omega arith) (omega arith) h
holds Ecall h = refl
holds other h = absurd h

pub decodes : (i : Inst) → IsUsed i → decode_of (word_of i) ≡ Some i
decodes i h = decode_of_word (word_of i) i (holds i h)

-- ---- one instruction

-- the run has come to the instruction of that number, in a state
pub record IsAt (start : State) (n : ℕ) (now : State) : Type 0 where
  pub state : state_after start n ≡ now
  pub before : Reaches start n

moved_on :
    (exit : Option ℕ) (outcome : Outcome) (event : Event) (before after : State)
    → exit ≡ None → outcome ≡ Went event after → moved exit outcome before ≡ after
moved_on exit outcome event before after running went = rw (running, went) refl

pub goes :
    (start : State) (n : ℕ) (now after : State) (event : Event)
    → IsAt start n now → now.exit ≡ None → next now ≡ Went event after → after.exit ≡ None
    → IsAt start (n + 1) after
goes start n now after event at running went on =
    let here : next (state_after start n) ≡ Went event after = ap next at.state ∙ went in
    let exit : (state_after start n).exit ≡ None = ap (λ (s : State). s.exit) at.state ∙ running in
    record {
      state = state_behind start n ∙ moved_on _ _ event _ after exit here;
      before =
          λ k h.
          elim (cases_lt k n) [
            | inl lt ↦ at.before k lt
            | inr ge ↦ let same : k ≡ n = omega arith in rw same (event, after, here, on)
          ];
    }

-- an instruction of the program stands where the state is
pub record IsReady (now : State) (i : Inst) : Type 0 where
  pub running : now.exit ≡ None
  pub word : word_at now.words now.pc ≡ Some (word_of i)
  pub used : IsUsed i

pub does : (now : State) (i : Inst) → IsReady now i → next now ≡ perform now (word_of i) i (action_of now.pc now.regs i)
unfolding next
does now i ready = rw (ready.word, decodes i ready.used) refl

-- the state leads to another, and goes on there
pub record Leads (now after : State) : Type 0 where
  pub event : Event
  pub went : next now ≡ Went event after
  pub running : after.exit ≡ None

computes_to :
    (now : State) (i : Inst) (rd value : ℕ) (access : Option DataRef)
    → (event : Event)
    × (computes now (word_of i) i rd value access None
    ≡ Went event (record now { regs = write now.regs rd value; pc = following now.pc }))
unfolding computes goes_on completes
computes_to now i rd value access = (_, refl)

pub goes_on_to :
    (now : State) (i : Inst) (access : Option DataRef)
    → (event : Event)
    × (goes_on now (word_of i) i access None ≡ Went event (record now { pc = following now.pc }))
unfolding goes_on completes
goes_on_to now i access = (_, refl)

pub computed :
    (now : State) (i : Inst) (rd value : ℕ)
    → IsReady now i → action_of now.pc now.regs i ≡ action.Compute rd value
    → Leads now (record now { regs = write now.regs rd value; pc = following now.pc })
computed now i rd value ready is =
    let to = computes_to now i rd value None in
    record {
      event = to.0;
      went = does now i ready ∙ ap (perform now (word_of i) i) is ∙ to.1;
      running = ready.running;
    }

-- the word at an address of data
found_at :
    (words : Words) (addr before : ℕ) (misaligned : TrapKind)
    → addr % 4 ≡ 0 → word_at words addr ≡ Some before → data_at words addr 4 misaligned ≡ Ok before
found_at words addr before misaligned aligned held =
    let test : (addr % 4 == 0) ≡ true = eq-eqb (addr % 4) 0 aligned in
    let place : addr - addr % 4 ≡ addr = omega arith in
    rw (test, place, held) refl

pub loads :
    (now : State) (i : Inst) (rd addr before : ℕ)
    → IsReady now i → action_of now.pc now.regs i ≡ action.Load rd addr size.Word true
    → addr % 4 ≡ 0 → word_at now.words addr ≡ Some before
    → Leads now (record now { regs = write now.regs rd before; pc = following now.pc })
loads now i rd addr before ready is aligned held =
    let to = computes_to now i rd before (Some (record { addr = addr; store = false; before = before })) in
    record {
      event = to.0;
      went =
          does now i ready
          ∙ ap (perform now (word_of i) i) is
          ∙ ap (λ r. meaning.loads r now (word_of i) i rd addr size.Word true)
          (found_at now.words addr before _ aligned held)
          ∙ to.1;
      running = ready.running;
    }

pub stores :
    (now : State) (i : Inst) (addr value before : ℕ)
    → IsReady now i → action_of now.pc now.regs i ≡ action.Store addr size.Word value
    → addr % 4 ≡ 0 → word_at now.words addr ≡ Some before
    → Leads now (record now { words = stored now.words addr value; pc = following now.pc })
stores now i addr value before ready is aligned held =
    let place : addr - addr % 4 ≡ addr = omega arith in
    let to =
    goes_on_to (record now { words = stored now.words addr value }) i
    (Some (record { addr = addr; store = true; before = before })) in
    record {
      event = to.0;
      went =
          does now i ready
          ∙ ap (perform now (word_of i) i) is
          ∙ ap (λ r. meaning.stores r now (word_of i) i addr size.Word value)
          (found_at now.words addr before _ aligned held)
          ∙ ap (λ p. goes_on (record now { words = stored now.words p value }) (word_of i) i
          (Some (record { addr = addr; store = true; before = before })) None) place
          ∙ to.1;
      running = ready.running;
    }

-- where a branch goes, taken or not
abbrev pub target_of : Bool → ℕ → ℕ → ℕ
target_of taken target pc = if taken then target else following pc

if_true : {A : Type 0} (test : Bool) (one other : A) → test ≡ true → (if test then one else other) ≡ one
if_true true one other is = refl
if_true false one other is = absurd (cc)

branch_to :
    (now : State) (i : Inst) (taken : Bool) (target : ℕ)
    → now.exit ≡ None → target % 4 ≡ 0
    → (event : Event)
    × (branches now (word_of i) i taken target ≡ Went event (record now { pc = target_of taken target now.pc }))
unfolding branches completes
branch_to now i true target running aligned = (_, if_true (target % 4 == 0) _ _ (eq-eqb (target % 4) 0 aligned))
branch_to now i false target running aligned = (_, refl)

pub branched :
    (now : State) (i : Inst) (taken : Bool) (target : ℕ)
    → IsReady now i → action_of now.pc now.regs i ≡ action.Branch taken target → target % 4 ≡ 0
    → Leads now (record now { pc = target_of taken target now.pc })
branched now i taken target ready is aligned =
    let went = branch_to now i taken target ready.running aligned in
    record {
      event = went.0;
      went = does now i ready ∙ ap (perform now (word_of i) i) is ∙ went.1;
      running = ready.running;
    }

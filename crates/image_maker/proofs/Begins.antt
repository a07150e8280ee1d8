-- The first five instructions of the generated program set the registers that the loop rests on.
use Rattle.std.proofs.Common.{◌≡◌, ◌<◌, ◌≤◌, ◌+◌, ◌*◌, ◌/◌, ◌^◌, ℕ, ℤ, pos, negsuc, List, get_or, refl, arith}
use Rattle.std.specs.Prelude.{slice_index, neg_ℤ, ◌-ℤ◌}
use Rattle.std.proofs.lemmas.Int.{ints}
use Rattle.rv_isa.specs.declared.inst.Inst.{Inst}
use Rattle.rv_isa.specs.declared.inst.Inst.TheVariants.{Lui, Addi, Ecall}
use Rattle.rv_exec.specs.declared.action.Action.TheVariants as action
use Rattle.rv_exec.specs.Arithmetic.{sum_of}
use Rattle.rv_exec.specs.Word.{word}
use Rattle.rv_exec.specs.Machine.{State, write}
use Rattle.rv_exec.specs.Action.{action_of}
use Rattle.rv_exec.specs.Runs.{run_of}
use Rattle.rv_machine.specs.Start.{start_registers}
use Rattle.image_maker.specs.Program.{start, program}
use Rattle.image_maker.proofs.Positions.{first_five}
use Rattle.image_maker.proofs.Stands.{IsNext, Stands, ready_at, going, next_on, came}
use Rattle.image_maker.proofs.Steps.{IsAt, computed}

-- behind an instruction that computes
abbrev after : State → ℕ → ℕ → State
after now rd value = going now (write now.regs rd value) now.words

step :
    (from : State) (code : List Inst) (n : ℕ) (now : State) (i : Inst) (rd value : ℕ)
    → IsAt from n now → IsNext code n now → n < 266 → get_or code n Ecall ≡ i
    → action_of now.pc now.regs i ≡ action.Compute rd value
    → IsAt from (n + 1) (after now rd value) × IsNext code (n + 1) (after now rd value)
step from code n now i rd value at next below is does = (
  came from now (after now rd value) n (n + 1) at next.running
      (computed now i rd value (ready_at code n now i next below is) does) refl,
  next_on code n (n + 1) now (write now.regs rd value) now.words next below refl next.loaded,
)

-- the counter is loaded in two parts
in_parts :
    (size high : ℕ) (z : ℤ) → size < 2 ^ 31 → high < 2 ^ 31 → z ≡ pos size -ℤ pos high
    → sum_of (word (pos high)) (word z) ≡ size
unfolding sum_of
in_parts size high (pos n) a b is = omega (arith, ints)
in_parts size high (negsuc n) a b is = omega (arith, ints)

pub begins :
    (from : State) (size seed : ℕ)
    → size ≤ 1_000_000 → from.regs ≡ start_registers → IsNext (program size seed) 0 from
    → Stands from (program size seed) 5 5 size
unfolding start run_of sum_of
begins from size seed most fresh first =
    let code : List Inst = program size seed in
    let high : ℕ = 4096 * ((size + 2048) / 4096) in
    let rest : ℤ = pos size -ℤ pos high in
    let at : IsAt from 0 from = record { state = refl; before = λ k h. absurd (omega arith) } in
    let s1 = step from code 0 from (Lui 8 (pos 0x20000)) 8 (word (pos 0x20000)) at first (omega arith)
    (first_five size seed 0 (omega arith)) refl in
    let n1 : State = after from 8 (word (pos 0x20000)) in
    let s2 = step from code 1 n1 (Lui 18 (pos 0x10000)) 18 (word (pos 0x10000)) s1.0 s1.1 (omega arith)
    (first_five size seed 1 (omega arith)) refl in
    let n2 : State = after n1 18 (word (pos 0x10000)) in
    let mask : ℕ = sum_of (slice_index n2.regs 18) (word (neg_ℤ (pos 4))) in
    let s3 = step from code 2 n2 (Addi 18 18 (neg_ℤ (pos 4))) 18 mask s2.0 s2.1 (omega arith)
    (first_five size seed 2 (omega arith)) refl in
    let n3 : State = after n2 18 mask in
    let s4 = step from code 3 n3 (Lui 9 (pos high)) 9 (word (pos high)) s3.0 s3.1 (omega arith)
    (first_five size seed 3 (omega arith)) refl in
    let n4 : State = after n3 9 (word (pos high)) in
    let turns : ℕ = sum_of (slice_index n4.regs 9) (word rest) in
    let s5 = step from code 4 n4 (Addi 9 9 rest) 9 turns s4.0 s4.1 (omega arith)
    (first_five size seed 4 (omega arith)) refl in
    record {
      state = after n4 9 turns;
      at = s5.0;
      next = s5.1;
      set = record {
        size = rw fresh refl;
        base = rw fresh refl;
        mask = rw fresh refl;
        turns = rw fresh (in_parts size high rest (omega arith) (omega arith) refl);
      };
    }

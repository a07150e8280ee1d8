-- The loop of the generated program, turn by turn, and its exit.
use Rattle.std.proofs.Common.{◌≡◌, ◌<◌, ◌≤◌, ◌+◌, ◌*◌, ◌%◌, ◌^◌, ℕ, zero, suc, pos, Bool, List, get_or, Some, None, refl, ap, ◌∙◌, arith}
use Rattle.std.specs.Prelude.{slice_index, neg_ℤ, not, ◌==◌}
use Rattle.std.proofs.lemmas.Bool.{ne_eqb}
use Rattle.rv_isa.specs.declared.inst.Inst.{Inst}
use Rattle.rv_isa.specs.declared.inst.Inst.TheVariants.{Addi, Bne, Ecall}
use Rattle.rv_exec.specs.Arithmetic.{sum_of}
use Rattle.rv_exec.specs.declared.event.Event.{Event}
use Rattle.rv_isa.specs.Encoding.{word_of}
use Rattle.rv_exec.specs.Word.{following, offset_by, word}
use Rattle.rv_exec.specs.Machine.{State, Went, write}
use Rattle.rv_exec.specs.Calls.{calls, exits}
use Rattle.rv_exec.specs.Next.{next}
use Rattle.rv_machine.specs.Outcome.{Does, Reaches}
use Rattle.image_maker.specs.Choice.{draw_of, kind_of, state_behind, choice_from}
use Rattle.image_maker.specs.Program.{program}
use Rattle.image_maker.proofs.Positions.{is_group, last}
use Rattle.image_maker.proofs.Groups.{group_goes}
use Rattle.image_maker.proofs.Stands.{Stands, free_high, address_of, ready_at, going, next_on, came, compute, read_kept, read_new, size_kept}
use Rattle.image_maker.proofs.Steps.{IsReady, computed, branched, target_of, does, goes_on_to}

moved_to :
    (start : State) (code : List Inst) (n m place other turns : ℕ)
    → n ≡ m → place ≡ other → Stands start code n place turns → Stands start code m other turns
moved_to start code n m place other turns one two s = rw (← one, ← two) s

group_done :
    (start : State) (size seed n group turns : ℕ)
    → group < 64 → Stands start (program size seed) n (5 + 4 * group) turns
    → Stands start (program size seed) (n + 4) (5 + 4 * group + 4) turns
unfolding choice_from
group_done start size seed n group turns below s =
    let from : ℕ = state_behind seed (4 * group) in
    group_goes start (program size seed) n (5 + 4 * group) turns
    (10 + draw_of from 1 % 6) (10 + draw_of from 2 % 6) (1 + draw_of from 3 % 500)
    (kind_of (draw_of from 0 % 4))
    (omega arith, omega arith) (omega arith, omega arith) (omega arith) (omega arith)
    (is_group size seed group below) s

groups_done :
    (start : State) (size seed n count turns : ℕ)
    → count ≤ 64 → Stands start (program size seed) n 5 turns
    → Stands start (program size seed) (n + 4 * count) (5 + 4 * count) turns
groups_done start size seed n zero turns below s =
    moved_to start (program size seed) n _ 5 _ turns (omega arith) refl s
groups_done start size seed n (suc count) turns below s =
    moved_to start (program size seed) (n + 4 * count + 4) _ (5 + 4 * count + 4) _ turns (omega arith) (omega arith)
    (group_done start size seed (n + 4 * count) count turns (omega arith)
    (groups_done start size seed n count turns (omega arith) s))

down : (c : ℕ) → c < 2 ^ 31 → sum_of (suc c) (word (neg_ℤ (pos 1))) ≡ c
unfolding sum_of
down c below = omega arith

-- one turn less is to come
counts_down :
    (start : State) (code : List Inst) (n c : ℕ)
    → c < 2 ^ 31 → get_or code 261 Ecall ≡ Addi 9 9 (neg_ℤ (pos 1))
    → Stands start code n 261 (suc c) → Stands start code (n + 1) 262 c
counts_down start code n c below is s =
    let now : State = s.state in
    let value : ℕ = sum_of (slice_index now.regs 9) (word (neg_ℤ (pos 1))) in
    let counted : value ≡ c =
    ap (λ (x : ℕ). sum_of x (word (neg_ℤ (pos 1)))) s.set.turns ∙ down c below in
    let ready = ready_at code 261 now (Addi 9 9 (neg_ℤ (pos 1))) s.next (omega arith) is in
    let leads = computed now (Addi 9 9 (neg_ℤ (pos 1))) 9 value ready refl in
    let regs = write now.regs 9 value in
    record {
      state = going now regs now.words;
      at = came start now _ n (n + 1) s.at s.next.running leads refl;
      next = next_on code 261 262 now regs now.words s.next (omega arith) refl s.next.loaded;
      set = record {
        size = size_kept now.regs 9 value ∙ s.set.size;
        base = read_kept now.regs 9 value 8 (λ e. absurd (omega arith)) ∙ s.set.base;
        mask = read_kept now.regs 9 value 18 (λ e. absurd (omega arith)) ∙ s.set.mask;
        turns = read_new now.regs 9 value (omega arith) (omega (arith, s.set.size)) ∙ counted;
      };
    }

-- where the branch at the end of a turn leads, with so many turns to come
abbrev place_behind : ℕ → ℕ
place_behind zero = 263
place_behind (suc c) = 5

back_to :
    (c : ℕ)
    → target_of (not (c == 0)) (offset_by (address_of 262) (neg_ℤ (pos 1028))) (address_of 262)
    ≡ address_of (place_behind c)
back_to zero = refl
back_to (suc c) = rw (ne_eqb (suc c) 0 (λ e. absurd (omega arith))) refl

branches_back :
    (start : State) (code : List Inst) (n c : ℕ)
    → get_or code 262 Ecall ≡ Bne 9 0 (neg_ℤ (pos 1028))
    → Stands start code n 262 c → Stands start code (n + 1) (place_behind c) c
branches_back start code n c is s =
    let now : State = s.state in
    let taken : Bool = not (slice_index now.regs 9 == 0) in
    let target : ℕ = offset_by now.pc (neg_ℤ (pos 1028)) in
    let aligned : target % 4 ≡ 0 = rw s.next.pc refl in
    let ready = ready_at code 262 now (Bne 9 0 (neg_ℤ (pos 1028))) s.next (omega arith) is in
    let leads = branched now (Bne 9 0 (neg_ℤ (pos 1028))) taken target ready refl aligned in
    record {
      state = record now { pc = target_of taken target now.pc };
      at = came start now _ n (n + 1) s.at s.next.running leads refl;
      next = record {
        pc = rw (s.set.turns, s.next.pc) (back_to c);
        running = s.next.running;
        loaded = s.next.loaded;
        used = s.next.used;
      };
      set = s.set;
    }

turn_done :
    (start : State) (size seed n c : ℕ)
    → c < 2 ^ 31 → Stands start (program size seed) n 5 (suc c)
    → Stands start (program size seed) (n + 258) (place_behind c) c
turn_done start size seed n c below s =
    let code : List Inst = program size seed in
    let all = groups_done start size seed n 64 (suc c) (omega arith) s in
    let less =
    counts_down start code (n + 256) c below (last size seed 261 0 refl)
    (moved_to start code (n + 4 * 64) (n + 256) (5 + 4 * 64) 261 (suc c) refl refl all) in
    let back = branches_back start code (n + 256 + 1) c (last size seed 262 1 refl) less in
    moved_to start code (n + 256 + 1 + 1) (n + 258) (place_behind c) (place_behind c) c (omega arith) refl back

pub turns_done :
    (start : State) (size seed n c : ℕ)
    → c < 2 ^ 31 → Stands start (program size seed) n 5 (suc c)
    → Stands start (program size seed) (n + 258 * suc c) 263 0
turns_done start size seed n zero below s =
    moved_to start (program size seed) (n + 258) _ 263 _ 0 (omega arith) refl
    (turn_done start size seed n zero below s)
turns_done start size seed n (suc c) below s =
    moved_to start (program size seed) (n + 258 + 258 * suc c) _ 263 _ 0 (omega arith) refl
    (turns_done start size seed (n + 258) c (omega arith) (turn_done start size seed n (suc c) below s))

-- the call with the number 93 exits
calls_exit :
    (now : State) (w : ℕ) (i : Inst) → slice_index now.regs 17 ≡ 93 → calls now w i ≡ exits now w i
unfolding calls
calls_exit now w i number = rw number refl

-- the state exits with the code in register 10
exits_with :
    (now : State) (code : ℕ)
    → IsReady now Ecall → slice_index now.regs 17 ≡ 93 → slice_index now.regs 10 ≡ code
    → (event : Event) × (after : State) × (next now ≡ Went event after) × (after.exit ≡ Some code)
unfolding exits
exits_with now code ready number is =
    let exited : State = record now { exit = Some (slice_index now.regs 10) } in
    let to = goes_on_to exited Ecall None in (
      to.0,
      record exited { pc = following now.pc },
      does now Ecall ready ∙ calls_exit now (word_of Ecall) Ecall number ∙ to.1,
      ap Some is,
    )

-- behind the last turn come three instructions, and the last of them exits
pub exits_at_end :
    (start : State) (size seed n : ℕ)
    → Stands start (program size seed) n 263 0 → Reaches start (n + 2) × Does start (n + 2) (Some 0)
unfolding sum_of
exits_at_end start size seed n s =
    let code : List Inst = program size seed in
    let free_17 = free_high 17 (omega arith) (omega arith) in
    let free_10 = free_high 10 (omega arith) (omega arith) in
    let s1 =
    compute start code n 263 0 s (Addi 17 0 (pos 93)) 17 93 (n + 1) 264 refl refl (omega arith)
    (last size seed 263 2 refl) free_17 refl in
    let s2 =
    compute start code (n + 1) 264 0 s1.0 (Addi 10 0 (pos 0)) 10 0 (n + 2) 265 (omega arith) refl (omega arith)
    (last size seed 264 3 refl) free_10 refl in
    let now : State = s2.0.state in
    let number : slice_index now.regs 17 ≡ 93 =
    ap (λ (r : List ℕ). slice_index r 17) s2.1
    ∙ read_kept s1.0.state.regs 10 0 17 (λ e. absurd (omega arith))
    ∙ ap (λ (r : List ℕ). slice_index r 17) s1.1
    ∙ read_new s.state.regs 17 93 (omega arith) (omega (arith, s.set.size)) in
    let answer : slice_index now.regs 10 ≡ 0 =
    ap (λ (r : List ℕ). slice_index r 10) s2.1
    ∙ read_new s1.0.state.regs 10 0 (omega arith) (omega (arith, s1.0.set.size)) in
    let ready = ready_at code 265 now Ecall s2.0.next (omega arith) (last size seed 265 4 refl) in
    let end = exits_with now 0 ready number answer in
    (s2.0.at.before, (end.0, end.1, ap next s2.0.at.state ∙ end.2, end.3))

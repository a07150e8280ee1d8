-- How far the run of the generated program has come: what its registers and memory hold, and that
-- each instruction leads on.
use Rattle.std.proofs.Common.{◌≡◌, ◌≢◌, ◌<◌, ◌≤◌, ◌+◌, ◌*◌, ◌%◌, ℕ, zero, suc, Bool, true, false, List, length, get_or, Option, Some, None, IsSome, refl, sym, ◌∙◌, arith, inl, inr, get_or-set_same, get_or-set_other}
use Rattle.std.specs.Prelude.{slice_index}
use Rattle.std.proofs.Math.ListN.{length-set}
use Rattle.std.proofs.lemmas.Bool.{cases_eq}
use Rattle.rv_isa.specs.declared.inst.Inst.{Inst}
use Rattle.rv_isa.specs.declared.inst.Inst.TheVariants.{Ecall}
use Rattle.rv_isa.specs.Encoding.{word_of}
use Rattle.rv_exec.specs.declared.action.Action.TheVariants as action
use Rattle.rv_exec.specs.declared.action.Size.TheVariants as size
use Rattle.rv_exec.specs.Word.{following}
use Rattle.rv_exec.specs.Memory.{Words, word_at, stored}
use Rattle.rv_exec.specs.Machine.{State, write}
use Rattle.rv_exec.specs.Action.{action_of}
use Rattle.image_maker.specs.Choice.{IsDrawnRegister}
use Rattle.image_maker.proofs.Memories.{stored_here, stored_there}
use Rattle.image_maker.proofs.Steps.{IsAt, IsReady, IsUsed, Leads, goes, computed, loads, stores, branched, target_of}

-- the address of the instruction of that number
abbrev pub address_of : ℕ → ℕ
address_of place = 0x00010074 + 4 * place

-- the words of memory: the code, and 64 KiB of data
pub record IsLoaded (program : List Inst) (words : Words) : Type 0 where
  pub code :
      (k : ℕ) → k < 266 → word_at words (address_of k) ≡ Some (word_of (get_or program k Ecall))
  pub mapped :
      (addr : ℕ) → addr % 4 ≡ 0 → 0x00020000 ≤ addr → addr < 0x00030000
      → IsSome (word_at words addr)

-- the instruction at the place is next
pub record IsNext (program : List Inst) (place : ℕ) (now : State) : Type 0 where
  pub pc : now.pc ≡ address_of place
  pub running : now.exit ≡ None
  pub loaded : IsLoaded program now.words
  pub used : (k : ℕ) → k < 266 → IsUsed (get_or program k Ecall)

-- the registers that the loop rests on, with so many turns left
pub record IsSet (left : ℕ) (regs : List ℕ) : Type 0 where
  pub size : length regs ≡ 32
  pub base : slice_index regs 8 ≡ 0x00020000
  pub mask : slice_index regs 18 ≡ 0xFFFC
  pub turns : slice_index regs 9 ≡ left

-- behind n instructions the one at the place is next, in the turn before so many others
pub record Stands (start : State) (code : List Inst) (n place turns : ℕ) : Type 0 where
  pub state : State
  pub at : IsAt start n state
  pub next : IsNext code place state
  pub set : IsSet turns state.regs

-- ---- registers

pub read_kept :
    (regs : List ℕ) (rd value r : ℕ) → r ≢ rd → slice_index (write regs rd value) r ≡ slice_index regs r
read_kept regs zero value r other = refl
read_kept regs (suc rd) value r other = get_or-set_other regs (suc rd) r value 0 other

pub read_new :
    (regs : List ℕ) (rd value : ℕ) → 0 < rd → rd < length regs → slice_index (write regs rd value) rd ≡ value
read_new regs zero value low high = absurd (omega arith)
read_new regs (suc rd) value low high = get_or-set_same regs (suc rd) value 0 high

pub size_kept : (regs : List ℕ) (rd value : ℕ) → length (write regs rd value) ≡ length regs
size_kept regs zero value = refl
size_kept regs (suc rd) value = length-set regs (suc rd) value

-- a register that the loop doesn't rest on
pub record IsFree (rd : ℕ) : Type 0 where
  pub low : 0 < rd
  pub high : rd < 18
  pub not_base : rd ≢ 8
  pub not_turns : rd ≢ 9

pub free_low : (rd : ℕ) → 0 < rd → rd < 8 → IsFree rd
free_low rd some below = record {
  low = some;
  high = omega arith;
  not_base = λ e. absurd (omega arith);
  not_turns = λ e. absurd (omega arith);
}

pub free_high : (rd : ℕ) → 9 < rd → rd < 18 → IsFree rd
free_high rd above below = record {
  low = omega arith;
  high = below;
  not_base = λ e. absurd (omega arith);
  not_turns = λ e. absurd (omega arith);
}

pub drawn_free : (r : ℕ) → IsDrawnRegister r → IsFree r
drawn_free r h = free_high r (omega arith) (omega arith)

-- ---- steps

pub ready_at :
    (code : List Inst) (place : ℕ) (now : State) (i : Inst)
    → IsNext code place now → place < 266 → get_or code place Ecall ≡ i → IsReady now i
ready_at code place now i next below is = record {
  running = next.running;
  word = rw (next.pc, next.loaded.code place below, is) refl;
  used = rw (← is) (next.used place below);
}

-- the state behind an instruction that isn't a jump
abbrev pub going : State → List ℕ → Words → State
going now regs words = record now { regs = regs; words = words; pc = following now.pc }

next_pc : (pc place k : ℕ) → pc ≡ address_of place → place < 266 → k ≡ place + 1 → following pc ≡ address_of k
next_pc pc place k is below one = omega arith

pub next_on :
    (code : List Inst) (place k : ℕ) (now : State) (regs : List ℕ) (words : Words)
    → IsNext code place now → place < 266 → k ≡ place + 1 → IsLoaded code words
    → IsNext code k (going now regs words)
next_on code place k now regs words next below one loaded = record {
  pc = next_pc now.pc place k next.pc below one;
  running = next.running;
  loaded = loaded;
  used = next.used;
}

set_kept : (left : ℕ) (regs : List ℕ) (rd value : ℕ) → IsSet left regs → IsFree rd → IsSet left (write regs rd value)
set_kept left regs rd value set free = record {
  size = size_kept regs rd value ∙ set.size;
  base = read_kept regs rd value 8 (λ e. free.not_base (sym e)) ∙ set.base;
  mask = read_kept regs rd value 18 (λ e. absurd (omega (arith, free.high))) ∙ set.mask;
  turns = read_kept regs rd value 9 (λ e. free.not_turns (sym e)) ∙ set.turns;
}

pub came :
    (start now after : State) (n m : ℕ)
    → IsAt start n now → now.exit ≡ None → Leads now after → m ≡ n + 1 → IsAt start m after
came start now after n m at running leads one =
    rw one (goes start n now after leads.event at running leads.went leads.running)

pub compute :
    (start : State) (code : List Inst) (n place turns : ℕ) (stands : Stands start code n place turns)
    (i : Inst) (rd value m k : ℕ)
    → m ≡ n + 1 → k ≡ place + 1 → place < 266 → get_or code place Ecall ≡ i → IsFree rd
    → action_of stands.state.pc stands.state.regs i ≡ action.Compute rd value
    → (later : Stands start code m k turns) × (later.state.regs ≡ write stands.state.regs rd value)
compute start code n place turns stands i rd value m k more one below is free does =
    let now = stands.state in
    let next = stands.next in
    let regs = write now.regs rd value in
    let leads = computed now i rd value (ready_at code place now i next below is) does in (
      record {
        state = going now regs now.words;
        at = came start now _ n m stands.at next.running leads more;
        next = next_on code place k now regs now.words next below one next.loaded;
        set = set_kept turns now.regs rd value stands.set free;
      },
      refl,
    )

some_of : (o : Option ℕ) → IsSome o → (w : ℕ) × (o ≡ Some w)
some_of (Some w) is = (w, refl)
some_of None is = absurd (cc)

-- the address of a word of the data
pub record IsData (addr : ℕ) : Type 0 where
  pub aligned : addr % 4 ≡ 0
  pub low : 0x00020000 ≤ addr
  pub high : addr < 0x00030000

pub load :
    (start : State) (code : List Inst) (n place turns : ℕ) (stands : Stands start code n place turns)
    (i : Inst) (rd addr m k : ℕ)
    → m ≡ n + 1 → k ≡ place + 1 → place < 266 → get_or code place Ecall ≡ i → IsFree rd
    → action_of stands.state.pc stands.state.regs i ≡ action.Load rd addr size.Word true → IsData addr
    → Stands start code m k turns
load start code n place turns stands i rd addr m k more one below is free does there =
    let now = stands.state in
    let next = stands.next in
    let found =
    some_of (word_at now.words addr) (next.loaded.mapped addr there.aligned there.low there.high) in
    let regs = write now.regs rd found.0 in
    let leads =
    loads now i rd addr found.0 (ready_at code place now i next below is) does there.aligned found.1 in
    record {
      state = going now regs now.words;
      at = came start now _ n m stands.at next.running leads more;
      next = next_on code place k now regs now.words next below one next.loaded;
      set = set_kept turns now.regs rd found.0 stands.set free;
    }

still_there : (words : Words) (addr value q : ℕ) → IsSome (word_at words q) → IsSome (word_at (stored words addr value) q)
still_there words addr value q is =
    elim (cases_eq q addr) [
      | inl same ↦ rw (same, stored_here words addr value) refl
      | inr other ↦ rw (stored_there words addr value q other) is
    ]

-- a store to the data leaves the code, and all that is mapped
still_loaded :
    (program : List Inst) (words : Words) (addr value : ℕ)
    → IsLoaded program words → IsData addr → IsLoaded program (stored words addr value)
still_loaded program words addr value loaded there = record {
  code =
      λ k h.
      stored_there words addr value (address_of k) (λ e. absurd (omega (arith, there.low)))
      ∙ loaded.code k h;
  mapped = λ q aligned low high. still_there words addr value q (loaded.mapped q aligned low high);
}

pub store :
    (start : State) (code : List Inst) (n place turns : ℕ) (stands : Stands start code n place turns)
    (i : Inst) (addr value m k : ℕ)
    → m ≡ n + 1 → k ≡ place + 1 → place < 266 → get_or code place Ecall ≡ i
    → action_of stands.state.pc stands.state.regs i ≡ action.Store addr size.Word value → IsData addr
    → Stands start code m k turns
store start code n place turns stands i addr value m k more one below is does there =
    let now = stands.state in
    let next = stands.next in
    let found =
    some_of (word_at now.words addr) (next.loaded.mapped addr there.aligned there.low there.high) in
    let words = stored now.words addr value in
    let leads =
    stores now i addr value found.0 (ready_at code place now i next below is) does there.aligned found.1 in
    record {
      state = going now now.regs words;
      at = came start now _ n m stands.at next.running leads more;
      next =
          next_on code place k now now.regs words next below one
          (still_loaded code now.words addr value next.loaded there);
      set = stands.set;
    }

-- a branch to the instruction behind it
either_way : (taken : Bool) (pc : ℕ) → target_of taken (following pc) pc ≡ following pc
either_way true pc = refl
either_way false pc = refl

pub pass :
    (start : State) (code : List Inst) (n place turns : ℕ) (stands : Stands start code n place turns)
    (i : Inst) (taken : Bool) (m k : ℕ)
    → m ≡ n + 1 → k ≡ place + 1 → place < 266 → get_or code place Ecall ≡ i
    → action_of stands.state.pc stands.state.regs i ≡ action.Branch taken (following stands.state.pc)
    → Stands start code m k turns
pass start code n place turns stands i taken m k more one below is does =
    let now = stands.state in
    let next = stands.next in
    let behind : following now.pc ≡ address_of k = next_pc now.pc place k next.pc below one in
    let aligned : following now.pc % 4 ≡ 0 = rw behind (omega arith) in
    let leads =
    branched now i taken (following now.pc) (ready_at code place now i next below is) does aligned in
    record {
      state = record now { pc = target_of taken (following now.pc) now.pc };
      at = came start now _ n m stands.at next.running leads more;
      next = record {
        pc = either_way taken now.pc ∙ behind;
        running = next.running;
        loaded = next.loaded;
        used = next.used;
      };
      set = stands.set;
    }

-- What loads and stores lead to.
use Rattle.std.specs.Prelude.{ℕ, ◌-◌, ◌%◌, Bool, true, false, ◌==◌, if◌then◌else◌, Option, Some, None, Result, Ok, Err}
use Rattle.rv_isa.specs.declared.inst.Inst.{Inst}
use Rattle.rv_exec.specs.declared.action.Size.{Size}
use Rattle.rv_exec.specs.declared.event.TrapKind.{TrapKind}
use Rattle.rv_exec.specs.declared.event.TrapKind.TheVariants as trap
use Rattle.rv_exec.specs.Bytes.{loaded, with_part}
use Rattle.rv_exec.specs.Finish.{goes_on, computes}
use Rattle.rv_exec.specs.Memory.{Words, word_at, stored}
use Rattle.rv_exec.specs.Machine.{State, Outcome, Stopped}

-- the word that holds the data address. A misaligned address is refused before a missing word
abbrev pub held : Option ℕ → Result ℕ TrapKind
held (Some w) = Ok w
held None = Err trap.Missing

abbrev pub data_at : Words → ℕ → ℕ → TrapKind → Result ℕ TrapKind
data_at words addr size misaligned =
    if addr % size == 0 then held (word_at words (addr - addr % 4)) else Err misaligned

abbrev pub loads : Result ℕ TrapKind → State → ℕ → Inst → ℕ → ℕ → Size → Bool → Outcome
loads (Err kind) s w i rd addr size signed = Stopped kind
loads (Ok before) s w i rd addr size signed =
    computes s w i rd (loaded size signed before addr)
    (Some (record { addr = addr; store = false; before = before })) None

abbrev pub stores : Result ℕ TrapKind → State → ℕ → Inst → ℕ → Size → ℕ → Outcome
stores (Err kind) s w i addr size value = Stopped kind
stores (Ok before) s w i addr size value =
    goes_on
    (record s {
      words = stored s.words (addr - addr % 4) (with_part size before addr value);
    })
    w i (Some (record { addr = addr; store = true; before = before })) None

-- How a run ends.
use Rattle.std.specs.Prelude.{◌≡◌, ◌<◌, ◌↔◌, ℕ, ◌+◌, Bool, true, is_some, Option, Some, None}
use Rattle.smarts_base.specs.Least.{least_below}
use Rattle.rv_exec.specs.declared.event.Event.{Event}
use Rattle.rv_exec.specs.declared.event.Trap.{Trap}
use Rattle.rv_exec.specs.Machine as step
use Rattle.rv_exec.specs.Machine.{State, Went, Stopped}
use Rattle.rv_exec.specs.Runs.{state_after, step_at}
use Rattle.rv_machine.specs.declared.outcome.Outcome.{Outcome}
use Rattle.rv_machine.specs.declared.outcome.Outcome.TheVariants.{Exited, Trapped, Spent}

-- the instruction exits or traps
abbrev pub is_last : step.Outcome → Bool
is_last (Went event after) = is_some after.exit
is_last (Stopped kind) = true

-- the exit counts as an instruction
abbrev pub exited_by : ℕ → Option ℕ → Outcome
exited_by n (Some code) = Exited code (n + 1)
exited_by n None = Spent

abbrev pub ended_by : ℕ → ℕ → step.Outcome → Outcome
ended_by n pc (Went event after) = exited_by n after.exit
ended_by n pc (Stopped kind) = Trapped n (record { kind = kind; pc = pc })

abbrev pub ended_at : State → Option ℕ → Outcome
ended_at start (Some n) = ended_by n (state_after start n).pc (step_at start n)
ended_at start None = Spent

-- a run ends with its first instruction that exits or traps, where there is one below the budget
unfoldable pub outcome_of : State → ℕ → Outcome
outcome_of start budget =
    ended_at start (least_below budget (λ n. is_last (step_at start n)))

-- the instruction of that number is done and leads to a state with that exit code, or none
abbrev pub Does : State → ℕ → Option ℕ → Type 0
Does start n exit =
    (event : Event) × (after : State) × (step_at start n ≡ Went event after) × (after.exit ≡ exit)

-- all instructions before that number are done, and the program goes on behind each
abbrev pub Reaches : State → ℕ → Type 0
Reaches start n = (k : ℕ) → k < n → Does start k None

-- an instruction below the budget is reached and exits. It counts in the length
abbrev pub Exits : State → ℕ → ℕ → ℕ → Type 0
Exits start budget length code =
    (at : ℕ) × (length ≡ at + 1) × (at < budget) × Reaches start at × Does start at (Some code)

-- the instruction of that number is below the budget, is reached and traps
abbrev pub Traps : State → ℕ → ℕ → Trap → Type 0
Traps start budget at trap =
    (at < budget) × Reaches start at × (step_at start at ≡ Stopped trap.kind)
    × (trap.pc ≡ (state_after start at).pc)

-- the outcome says how the run ends, and each of its forms comes exactly where the run ends so
pub record IsOutcome (start : State) (budget : ℕ) (outcome : Outcome) : Type 0 where
  pub exited :
      (code length : ℕ) → (outcome ≡ Exited code length) ↔ Exits start budget length code
  pub trapped : (at : ℕ) (trap : Trap) → (outcome ≡ Trapped at trap) ↔ Traps start budget at trap
  pub spent : (outcome ≡ Spent) ↔ Reaches start budget

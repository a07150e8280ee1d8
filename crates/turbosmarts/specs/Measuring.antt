-- Parts of a run, and what is measured of them.
use Rattle.std.specs.Prelude.{◌≡◌, ◌==◌, if◌then◌else◌, ◌<◌, ◌≤◌, ◌+◌, ◌*◌, ℕ, List, None, length, slice_index}
use Rattle.confidence.specs.declared.answer.Answer.TheVariants.{Cycles}
use Rattle.confidence.specs.Sums.{IsCycles}
use Rattle.hierarchy.specs.declared.config.Config.{Config}
use Rattle.rv_exec.specs.Runs.{run_of}
use Rattle.rv_exec.specs.Machine.{State}
use Rattle.rv_machine.specs.declared.outcome.Outcome.TheVariants.{Exited, Trapped}
use Rattle.rv_machine.specs.Machine.{Machine, IsUnderWay}
use Rattle.rv_machine.specs.Outcome.{outcome_of}
use Rattle.sample_design.specs.declared.design.Design.{Design}
use Rattle.sample_design.specs.Units.{sampled_unit, EndsWithin}
use Rattle.turbosmarts.specs.declared.measuring.Part.{Part}
use Rattle.turbosmarts.specs.declared.measuring.PartEnd.{PartEnd}
use Rattle.turbosmarts.specs.declared.measuring.PartEnd.TheVariants as ends
use Rattle.unit_answers.specs.Answers.{whole_answer}

-- so many instructions of a run can be done, and were shown
pub record HasShown (seen : ℕ → Type 0) (start : State) (n : ℕ) : Type 0 where
  pub done : (run_of start n).halt ≡ None
  pub shown : seen n

-- the run has come to the instruction of that number, and those before it were shown
pub record HasCome (seen : ℕ → Type 0) (start : Machine) (at : ℕ) (now : Machine) : Type 0 where
  pub way : IsUnderWay start at now
  pub after : (run_of start.state at).after ≡ now.state
  pub shown : HasShown seen start.state at

-- how a part of so many instructions ended, that began at a place
abbrev pub EndsPart : (ℕ → Type 0) → Machine → ℕ → ℕ → ℕ → Machine → PartEnd → Type 0
EndsPart shown start at len ran now ends.Full = (ran ≡ len) × HasCome shown start (at + len) now
EndsPart shown start at len ran now (ends.Exited code) =
    (budget : ℕ) → at + ran ≤ budget → outcome_of start.state budget ≡ Exited code (at + ran)
EndsPart shown start at len ran now (ends.Trapped trap) =
    (ran < len)
    × ((budget : ℕ) → at + ran < budget → outcome_of start.state budget ≡ Trapped (at + ran) trap)

-- what came of a part of at most so many instructions, that began at a place
pub record IsPart (seen : ℕ → Type 0) (start : Machine) (at len : ℕ) (now : Machine) (part : Part) : Type 0 where
  pub ran : part.ran ≤ len
  pub shown : HasShown seen start.state (at + part.ran)
  pub ends : EndsPart seen start at len part.ran now part.end

-- Before the unit of that number, the sampled units have been measured, up to 65,536 of them; `next` is the
-- number of the one that comes next.
pub record IsMeasuring (config : Config) (start : State) (design : Design) (unit next : ℕ) (cycles : List ℕ) : Type 0 where
  pub next_is : next ≡ sampled_unit design (length cycles)
  pub few : length cycles ≤ 65536
  pub small : next ≤ 1_000_000 * (length cycles + 1)
  pub ahead : length cycles < 65536 → unit ≤ next
  pub units : (p : ℕ) → p < length cycles
      → whole_answer config start design (sampled_unit design p) ≡ Cycles (slice_index cycles p)
  pub valid : (p : ℕ) → p < length cycles → IsCycles (slice_index cycles p)

-- every sampled unit that ends within a length was measured, up to 65,536 of them
pub record AreMeasured (config : Config) (start : State) (design : Design) (len : ℕ) (cycles : List ℕ) : Type 0 where
  pub all : (p : ℕ) → p < 65536 → EndsWithin design len (sampled_unit design p) → p < length cycles
  pub units : (p : ℕ) → p < length cycles
      → whole_answer config start design (sampled_unit design p) ≡ Cycles (slice_index cycles p)
  pub valid : (p : ℕ) → p < length cycles → IsCycles (slice_index cycles p)

-- how many units have ended after a part of one of which so many instructions ran
abbrev pub units_ended : ℕ → ℕ → ℕ → ℕ
units_ended size unit ran = if ran == size then unit + 1 else unit

-- The library of a run.
use Rattle.std.specs.Prelude.{◌≡◌, ◌≤◌, ℕ, ⊤, None, Result, Ok, Err}
use Rattle.live_points.specs.declared.header.Header.{Header}
use Rattle.live_points.specs.declared.header.Records.{Records}
use Rattle.live_points.specs.Points.{points_of}
use Rattle.live_points.specs.Sharing.{IsSharing}
use Rattle.livepoint_format.specs.Values.{Whole}
use Rattle.livepoint_format.specs.Views.{head_of}
use Rattle.rv_exec.specs.Machine.{State}
use Rattle.rv_exec.specs.Runs.{run_of}
use Rattle.rv_machine.specs.declared.outcome.Outcome.{Outcome}
use Rattle.rv_machine.specs.declared.outcome.Outcome.TheVariants.{Exited, Trapped, Spent}
use Rattle.rv_machine.specs.Outcome.{outcome_of}
use Rattle.sample_design.specs.declared.design.Design.{Design}
use Rattle.sample_design.specs.declared.units.UnitsFault.{UnitsFault}
use Rattle.sample_design.specs.Units.{units_of}
use Rattle.smarts_base.specs.declared.refusal.Refusal.{Refusal}
use Rattle.smarts_base.specs.declared.refusal.Refusal.TheVariants.{Fault, NoMemory}
use Rattle.smarts_base.specs.Outcome.{◌>>=◌}
use Rattle.warming.specs.declared.fault.WarmFault.{WarmFault}
use Rattle.warming.specs.declared.fault.WarmFault.TheVariants as faults

-- the length of a run that exits
abbrev pub length_or_fault : Outcome → Result ℕ WarmFault
length_or_fault (Exited code length) = Ok length
length_or_fault (Trapped at trap) = Err (faults.Trapped at trap)
length_or_fault Spent = Err faults.Spent

-- so the run goes on to that length
pub record GoesTo (start : State) (budget length : ℕ) : Type 0 where
  pub whole : (run_of start length).halt ≡ None
  pub least : 1 ≤ length
  pub most : length ≤ budget

abbrev pub count_or_fault : Result ℕ UnitsFault → Result ℕ WarmFault
count_or_fault (Ok count) = Ok count
count_or_fault (Err fault) = Err (faults.Units fault)

-- the header of a library in version 2, of a run of this length with so many points. The budget isn't kept
abbrev pub header_with : Design → Records → ℕ → ℕ → ℕ → Header
header_with design records heap_low length points = record {
  version = 2;
  length = length;
  points = points;
  design = record design { budget = 1 };
  heap_low = heap_low;
  records = records;
}

-- the header of the library of a run, or the first fault: of the run, of its units
unfoldable pub header_or_fault : State → Design → Records → Result Header WarmFault
header_or_fault start design records = do
  length ← length_or_fault (outcome_of start design.budget)
  count ← count_or_fault (units_of design length)
  Ok (header_with design records start.heap_low length count)

-- the library has this header, the run's points in the order of visits, and the table of the pairs that they share
pub record IsLibraryOf (start : State) (header : Header) (library : Whole) : Type 0 where
  pub head : library.head ≡ head_of header
  pub points : library.points ≡ points_of header start header.points
  pub shared : IsSharing library.points library.shared

-- the answer is the library of the run, or the first fault, or want of memory
abbrev pub IsWarmed : State → Result Header WarmFault → Result Whole (Refusal WarmFault) → Type 0
IsWarmed start (Ok header) (Ok library) = IsLibraryOf start header library
IsWarmed start (Ok header) (Err (Fault fault)) = ⊥
IsWarmed start (Err expected) (Ok library) = ⊥
IsWarmed start (Err expected) (Err (Fault fault)) = expected ≡ fault
IsWarmed start expected (Err NoMemory) = ⊤

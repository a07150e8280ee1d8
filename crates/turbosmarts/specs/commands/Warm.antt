-- `warm`: the library of a program's run.
use Rattle.std.specs.Prelude.{ℕ, List, Result, Ok, Err}
use Rattle.elf_image.specs.Image.{image_of}
use Rattle.live_points.specs.declared.header.Header.{Header}
use Rattle.live_points.specs.declared.header.Records.{Records}
use Rattle.live_points.specs.Points.{points_of}
use Rattle.livepoint_format.specs.Format.{spelling}
use Rattle.livepoint_format.specs.Values.{Whole}
use Rattle.livepoint_format.specs.Views.{head_of}
use Rattle.rv_exec.specs.Machine.{State}
use Rattle.rv_machine.specs.Start.{start_of}
use Rattle.sample_design.specs.declared.design.Design.{Design}
use Rattle.sample_design.specs.declared.units.UnitsFault.TheVariants as units
use Rattle.smarts_base.specs.Outcome.{◌>>=◌}
use Rattle.smarts_text.specs.declared.status.DesignFault.TheVariants.{NoUnits, TooMany}
use Rattle.turbosmarts.specs.declared.fault.InputFault.{InputFault}
use Rattle.turbosmarts.specs.declared.fault.InputFault.TheVariants as faults
use Rattle.turbosmarts.specs.Sharing.{sharing_of}
use Rattle.turbosmarts.specs.Stages.{Written, image_or_fault, library_written}
use Rattle.warming.specs.declared.fault.WarmFault.{WarmFault}
use Rattle.warming.specs.declared.fault.WarmFault.TheVariants as warms
use Rattle.warming.specs.Warming.{header_or_fault}

-- why there is no library of a run
abbrev pub run_fault : ℕ → WarmFault → InputFault
run_fault budget (warms.Trapped at trap) = faults.Trapped at trap
run_fault budget warms.Spent = faults.BudgetSpent budget
run_fault budget (warms.Units (units.NoUnits length)) = faults.BadDesign (NoUnits length)
run_fault budget (warms.Units (units.TooMany count)) = faults.BadDesign (TooMany count)

abbrev pub run_or_fault : ℕ → Result Header WarmFault → Result Header InputFault
run_or_fault budget (Ok header) = Ok header
run_or_fault budget (Err fault) = Err (run_fault budget fault)

-- the library of a run: under its header the live-points of all sampled units in the order of visits, and the table
-- of the pairs that they share
abbrev pub run_library : State → Header → Whole
run_library start header = record {
  head = head_of header;
  shared = sharing_of (points_of header start header.points);
  points = points_of header start header.points;
}

-- the library of the run of the program in the input, or the first fault: of the image, of its run, of its units, of
-- the library's length
unfoldable pub warm_result : Design → Records → List ℕ → Result Written InputFault
warm_result design records input = do
  image ← image_or_fault (image_of input)
  header ← run_or_fault design.budget (header_or_fault (start_of image) design records)
  library_written (spelling (run_library (start_of image) header))

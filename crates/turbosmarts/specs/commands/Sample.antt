-- `sample`: the report on a sample of a program's run.
use Rattle.std.specs.Prelude.{ℕ, List, None, Result, Ok, Err}
use Rattle.confidence.specs.declared.answer.Answer.{Answer as UnitAnswer}
use Rattle.confidence.specs.declared.verdict.Test.{Test}
use Rattle.elf_image.specs.Image.{image_of}
use Rattle.hierarchy.specs.declared.config.Config.{Config}
use Rattle.ordered_fold.specs.Ending.{ending_of, sums_at_end}
use Rattle.rv_machine.specs.Outcome.{outcome_of}
use Rattle.rv_machine.specs.Start.{start_of}
use Rattle.sample_design.specs.declared.design.Design.{Design}
use Rattle.sample_design.specs.declared.units.UnitsFault.{UnitsFault}
use Rattle.sample_design.specs.declared.units.UnitsFault.TheVariants as units
use Rattle.sample_design.specs.Units.{units_of}
use Rattle.smarts_base.specs.Outcome.{◌>>=◌}
use Rattle.smarts_text.specs.declared.status.DesignFault.TheVariants.{NoUnits, TooMany}
use Rattle.smarts_text.specs.Report.{report_of}
use Rattle.turbosmarts.specs.declared.fault.InputFault.{InputFault}
use Rattle.turbosmarts.specs.declared.fault.InputFault.TheVariants as faults
use Rattle.turbosmarts.specs.Stages.{Written, image_or_fault, exit_or_fault}
use Rattle.unit_answers.specs.Answers.{unit_answers}

abbrev pub units_or_fault : Result ℕ UnitsFault → Result ℕ InputFault
units_or_fault (Ok count) = Ok count
units_or_fault (Err (units.NoUnits length)) = Err (faults.BadDesign (NoUnits length))
units_or_fault (Err (units.TooMany count)) = Err (faults.BadDesign (TooMany count))

-- the report on a run of that length with so many sampled units
abbrev pub report_on : Design → Test → ℕ → ℕ → List UnitAnswer → List ℕ
report_on design test length count answers =
    report_of length count design.unit (ending_of test answers) (sums_at_end test answers) test.z

-- the report of a sample of the program in the input, or the first fault: of the image, of its run, of its units
unfoldable pub sample_result : Design → Config → Test → List ℕ → Result Written InputFault
sample_result design config test input = do
  image ← image_or_fault (image_of input)
  exit ← exit_or_fault design.budget (outcome_of (start_of image) design.budget)
  count ← units_or_fault (units_of design exit.length)
  Ok (record { bytes = report_on design test exit.length count (unit_answers config (start_of image) design count); exit = None })

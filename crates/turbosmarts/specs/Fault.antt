-- The end that each fault of the input is.
use Rattle.smarts_text.specs.declared.status.Status.{Status}
use Rattle.smarts_text.specs.declared.status.Status.TheVariants as statuses
use Rattle.turbosmarts.specs.declared.fault.InputFault.{InputFault}
use Rattle.turbosmarts.specs.declared.fault.InputFault.TheVariants as faults

abbrev pub status_of : InputFault → Status
status_of (faults.BadImage fault) = statuses.BadImage fault
status_of (faults.BadLibrary fault) = statuses.BadLibrary fault
status_of (faults.Trapped at trap) = statuses.Trapped at trap
status_of (faults.BudgetSpent budget) = statuses.BudgetSpent budget
status_of (faults.BadDesign fault) = statuses.BadDesign fault

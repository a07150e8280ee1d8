-- The stages that commands share: each has its value, or the first fault of the input.
use Rattle.std.specs.Prelude.{ℕ, List, length, nat_lt, if◌then◌else◌, Option, None, Result, Ok, Err}
use Rattle.elf_image.specs.declared.fault.ImageFault.{ImageFault}
use Rattle.elf_image.specs.Image.{ImageValue}
use Rattle.livepoint_format.specs.declared.fault.LibraryFault.{LibraryFault}
use Rattle.livepoint_format.specs.Values.{Whole}
use Rattle.rv_machine.specs.declared.outcome.Outcome.{Outcome}
use Rattle.rv_machine.specs.declared.outcome.Outcome.TheVariants.{Exited, Trapped, Spent}
use Rattle.smarts_text.specs.declared.status.DesignFault.TheVariants.{LibraryTooLarge}
use Rattle.turbosmarts.specs.declared.ending.Exit.{Exit}
use Rattle.turbosmarts.specs.declared.fault.InputFault.{InputFault}
use Rattle.turbosmarts.specs.declared.fault.InputFault.TheVariants as faults

-- what a command writes, and how the program exited where it was run for its output
pub record Written : Type 0 where
  pub bytes : List ℕ
  pub exit : Option Exit

abbrev pub written_as : List ℕ → Option Exit → Written
written_as bytes exit = record { bytes = bytes; exit = exit }

abbrev pub image_or_fault : Result ImageValue ImageFault → Result ImageValue InputFault
image_or_fault (Ok image) = Ok image
image_or_fault (Err fault) = Err (faults.BadImage fault)

abbrev pub exit_or_fault : ℕ → Outcome → Result Exit InputFault
exit_or_fault budget (Exited code length) = Ok (record { code = code; length = length })
exit_or_fault budget (Trapped at trap) = Err (faults.Trapped at trap)
exit_or_fault budget Spent = Err (faults.BudgetSpent budget)

abbrev pub library_or_fault : Result Whole LibraryFault → Result Whole InputFault
library_or_fault (Ok library) = Ok library
library_or_fault (Err fault) = Err (faults.BadLibrary fault)

-- the most bytes of a library
abbrev pub library_limit : ℕ
library_limit = 1_073_741_824

-- the bytes of a library, where they aren't too many
unfoldable pub library_written : List ℕ → Result Written InputFault
library_written bytes =
    if nat_lt library_limit (length bytes) then Err (faults.BadDesign (LibraryTooLarge (length bytes)))
    else Ok (written_as bytes None)

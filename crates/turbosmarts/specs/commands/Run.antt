-- `run`: the output of a program.
use Rattle.std.specs.Prelude.{ℕ, List, Some, Result, Ok}
use Rattle.elf_image.specs.Image.{image_of}
use Rattle.rv_machine.specs.Outcome.{outcome_of}
use Rattle.rv_machine.specs.Output.{output_after}
use Rattle.rv_machine.specs.Start.{start_of}
use Rattle.smarts_base.specs.Outcome.{◌>>=◌}
use Rattle.turbosmarts.specs.declared.fault.InputFault.{InputFault}
use Rattle.turbosmarts.specs.Stages.{Written, image_or_fault, exit_or_fault}

-- the output of the program in the input, or the first fault: of the image, of its run
unfoldable pub run_result : ℕ → List ℕ → Result Written InputFault
run_result budget input = do
  image ← image_or_fault (image_of input)
  exit ← exit_or_fault budget (outcome_of (start_of image) budget)
  Ok (record { bytes = output_after (start_of image) budget; exit = Some exit })

-- `demo`: a sample of the program that is made from a size and the seed.
use Rattle.std.specs.Prelude.{ℕ, Result}
use Rattle.confidence.specs.declared.verdict.Test.{Test}
use Rattle.hierarchy.specs.declared.config.Config.{Config}
use Rattle.image_maker.specs.Image.{image_file}
use Rattle.sample_design.specs.declared.design.Design.{Design}
use Rattle.turbosmarts.specs.declared.fault.InputFault.{InputFault}
use Rattle.turbosmarts.specs.commands.Sample.{sample_result}
use Rattle.turbosmarts.specs.Stages.{Written}

abbrev pub demo_result : ℕ → Design → Config → Test → Result Written InputFault
demo_result size design config test = sample_result design config test (image_file size design.seed)

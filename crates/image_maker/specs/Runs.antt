-- What the generated program does: its file is read as an image, and its run exits.
use Rattle.std.specs.Prelude.{◌≡◌, ◌<◌, ◌≤◌, ◌+◌, ◌*◌, ℕ, Ok}
use Rattle.elf_image.specs.Image.{ImageValue, image_of}
use Rattle.rv_machine.specs.declared.outcome.Outcome.TheVariants.{Exited}
use Rattle.rv_machine.specs.Outcome.{outcome_of}
use Rattle.rv_machine.specs.Start.{start_of}
use Rattle.image_maker.specs.Image.{image_file}

-- the file keeps all rules of an image, and the run of the image exits with code 0 after five
-- instructions, 258 in each turn, and three
pub record RunsToItsEnd (size seed : ℕ) : Type 0 where
  pub image : ImageValue
  pub read : image_of (image_file size seed) ≡ Ok image
  pub exits :
      (budget : ℕ) → 258 * size + 8 ≤ budget
      → outcome_of (start_of image) budget ≡ Exited 0 (258 * size + 8)

abbrev pub EachRunsToItsEnd : Type 0
EachRunsToItsEnd = (size seed : ℕ) → 0 < size → size ≤ 1_000_000 → RunsToItsEnd size seed

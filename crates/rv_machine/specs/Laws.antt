-- Where a program starts, word by word, and how a run ends, said without the least number: laws
-- that the definitions keep.
use Rattle.std.specs.Prelude.{◌≡◌, ◌↔◌, ℕ, Some, None, IsSome, IfSome}
use Rattle.elf_image.specs.Image.{ImageValue, IsImage, word_in}
use Rattle.rv_exec.specs.Memory.{word_at}
use Rattle.rv_exec.specs.Machine.{State}
use Rattle.rv_machine.specs.ProgramMemory.{IsWordAddress}
use Rattle.rv_machine.specs.Outcome.{outcome_of, IsOutcome}
use Rattle.rv_machine.specs.Start.{start_of}

abbrev pub OutcomesAre : Type 0
OutcomesAre = (start : State) (budget : ℕ) → IsOutcome start budget (outcome_of start budget)

-- what stands at an address when a program starts: a word exactly at each address of one. It is
-- that of the image, where the image has one, and else 0
pub record StartsWith (image : ImageValue) (addr : ℕ) : Type 0 where
  pub mapped :
      IsSome (word_at (start_of image).words addr)
      ↔ IsWordAddress image.low image.heap_low addr
  pub loaded : IfSome (word_in image addr) (λ w. word_at (start_of image).words addr ≡ Some w)
  pub zero :
      IsWordAddress image.low image.heap_low addr → word_in image addr ≡ None
      → word_at (start_of image).words addr ≡ Some 0

abbrev pub StartWords : Type 0
StartWords = (image : ImageValue) (addr : ℕ) → IsImage image → StartsWith image addr

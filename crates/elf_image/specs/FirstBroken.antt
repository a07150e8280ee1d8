-- What the order of the rules means for an answer.
use Rattle.std.specs.Prelude.{◌≡◌, ℕ, true, false, List, take, slice_get, Some, All}
use Rattle.smarts_base.specs.declared.refusal.Refusal.{Refusal}
use Rattle.smarts_base.specs.declared.refusal.Refusal.TheVariants.{Fault, NoMemory}
use Rattle.elf_image.specs.declared.fault.ImageFault.{ImageFault}
use Rattle.elf_image.specs.Rules.{Rule, rules, breaks, fault_of}

-- the file breaks the rule at this place of the table, and none before it
pub record IsFirstBroken (file : List ℕ) (place : ℕ) (rule : Rule) : Type 0 where
  pub stands : slice_get rules place ≡ Some rule
  pub broken : breaks file rule ≡ true
  pub before : All (λ earlier. breaks file earlier ≡ false) (take place rules)

-- a fault is that of the first broken rule; of want of memory nothing is said
abbrev pub IsOfFirstBroken : List ℕ → Refusal ImageFault → Type 0
IsOfFirstBroken file (Fault fault) =
    (place : ℕ) × (rule : Rule) × IsFirstBroken file place rule × (fault ≡ fault_of rule)
IsOfFirstBroken file NoMemory = Unit {0}

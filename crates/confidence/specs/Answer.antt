-- What the simulation of a point answers.
use Rattle.confidence.specs.declared.answer.Answer.{Answer}
use Rattle.confidence.specs.declared.answer.Answer.TheVariants.{Cycles, Fault}
use Rattle.confidence.specs.Sums.{IsCycles}

-- the cycles, where the answer has them, are those of one unit
abbrev pub IsValidAnswer : Answer → Type 0
IsValidAnswer (Cycles cycles) = IsCycles cycles
IsValidAnswer (Fault fault) = Unit {0}

-- Why a library wasn't read to its end.
use Rattle.std.specs.Prelude.{ℕ, List, Option, Err}
use Rattle.library_fold.specs.declared.stop.Stop.{Stop}
use Rattle.library_fold.specs.declared.stop.Stop.TheVariants as stops
use Rattle.library_reader.specs.Intake.{IsOver}
use Rattle.library_reader.specs.Reader.{Reading}

-- a fault is that of all that the source gave
abbrev pub IsStopped : Stop → Reading → Option (List ℕ) → Option (List ℕ) → Type 0
IsStopped (stops.Read error) old before after = Unit {0}
IsStopped (stops.Library fault) old before after = (given : List ℕ) × IsOver old before after (λ first. Err fault) given

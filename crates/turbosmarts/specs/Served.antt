-- What a call answers to the input that it reads of a source.
use Rattle.std.specs.Prelude.{◌≡◌, ◌≤◌, ◌+◌, ℕ, List, [], length, Option, Some, None, IfSome, Result, Ok, Err}
use Rattle.library_fold.specs.declared.stop.Stop.{Stop as LibraryStop}
use Rattle.library_fold.specs.declared.stop.Stop.TheVariants as library_stops
use Rattle.smarts_base.specs.declared.refusal.Refusal.{Refusal}
use Rattle.smarts_base.specs.declared.refusal.Refusal.TheVariants as refusals
use Rattle.smarts_io.specs.Bytes.{Gives, cut_past}
use Rattle.smarts_io.specs.declared.reading.ReadError.TheVariants.{NoMemory}
use Rattle.turbosmarts.specs.declared.fault.InputFault.{InputFault}
use Rattle.turbosmarts.specs.declared.fault.InputFault.TheVariants.{BadLibrary}
use Rattle.turbosmarts.specs.declared.stop.Stop.{Stop}
use Rattle.turbosmarts.specs.declared.stop.Stop.TheVariants as stops
use Rattle.turbosmarts.specs.Stages.{Written}

abbrev pub stop_of : Refusal InputFault → Stop
stop_of (refusals.Fault fault) = stops.Fault fault
stop_of refusals.NoMemory = stops.Read NoMemory

-- a fault of a library is one of the input
abbrev pub stop_at : LibraryStop → Stop
stop_at (library_stops.Read error) = stops.Read error
stop_at (library_stops.Library fault) = stops.Fault (BadLibrary fault)

-- So much was read of the input: all of it, up to one byte more than the limit. Where there is no limit, nothing is.
abbrev pub IsRead : Option ℕ → Option (List ℕ) → Option (List ℕ) → List ℕ → Type 0
IsRead None before after read = (read ≡ []) × (after ≡ before)
IsRead (Some limit) before after read =
    Gives before read after × IfSome before (λ rest. read ≡ cut_past limit rest) × (length read ≤ limit + 1)

abbrev pub IsAnswer : Result Written Stop → Result Written InputFault → Type 0
IsAnswer (Ok written) expected = expected ≡ Ok written
IsAnswer (Err (stops.Fault fault)) expected = expected ≡ Err fault
IsAnswer (Err (stops.Read error)) expected = Unit {0}

-- the answer to what was read, unless the source failed or memory wasn't found
abbrev pub IsServed : Result Written Stop → Option ℕ → (List ℕ → Result Written InputFault) → Option (List ℕ) → Option (List ℕ) → Type 0
IsServed (Err (stops.Read error)) limit expected before after = Unit {0}
IsServed result limit expected before after =
    (read : List ℕ) × IsRead limit before after read × IsAnswer result (expected read)

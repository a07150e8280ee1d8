-- What stays when bytes come in behind those that a reader has.
use Rattle.std.specs.Prelude.{◌≡◌, ℕ, ◌+◌, Result, Ok, Err, List, ◌++◌, length}
use Rattle.livepoint_format.specs.declared.fault.LibraryFault.{LibraryFault}
use Rattle.livepoint_format.specs.declared.fault.LibraryFault.TheVariants as faults
use Rattle.livepoint_format.specs.Reading.{Spot, Reader}

abbrev pub longer : Spot → List ℕ → Spot
longer at more = record { place = at.place; rest = at.rest ++ more }

-- a value stays, and a fault but for Truncated, whose place is the end of the bytes
abbrev pub Stays : {A : Type 0} → List ℕ → Spot → Result (A × Spot) LibraryFault → Result (A × Spot) LibraryFault → Type 0
Stays more at (Ok x) after = after ≡ Ok (x.0, longer x.1 more)
Stays more at (Err (faults.Truncated end)) after = end ≡ at.place + length at.rest
Stays more at (Err fault) after = after ≡ Err fault

pub record Grows {A : Type 0} (read : Reader A) : Type 0 where
  pub stays : (at : Spot) (more : List ℕ) → Stays more at (read at) (read (longer at more))
  -- no byte is made or lost
  pub sum : (at : Spot) (x : A) (after : Spot) → read at ≡ Ok (x, after) → after.place + length after.rest ≡ at.place + length at.rest

-- What all that a source gave is as a library.
use Rattle.std.specs.Prelude.{◌≡◌, ◌≤◌, ℕ, List, length, Option, Result}
use Rattle.livepoint_format.specs.declared.fault.LibraryFault.{LibraryFault}
use Rattle.livepoint_format.specs.Decoding.{library_of}
use Rattle.livepoint_format.specs.Values.{Whole}
use Rattle.smarts_io.specs.Bytes.{Gives, IsAtEnd}

-- the source gave these bytes, all that it had or one more than a library may have, and they are this library, or
-- have this fault
pub record HasGiven (before after : Option (List ℕ)) (expected : Result Whole LibraryFault) (given : List ℕ) : Type 0 where
  pub gives : Gives before given after
  pub whole : length given ≤ 1073741824 → IsAtEnd after
  pub most : length given ≤ 1073741825
  pub library : library_of given ≡ expected

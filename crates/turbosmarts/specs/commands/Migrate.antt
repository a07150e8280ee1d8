-- `migrate`: a library again, with the words that several points share standing once.
use Rattle.std.specs.Prelude.{ℕ, List, Result}
use Rattle.livepoint_format.specs.Decoding.{library_of}
use Rattle.livepoint_format.specs.Format.{spelling}
use Rattle.livepoint_format.specs.Values.{Whole}
use Rattle.smarts_base.specs.Outcome.{◌>>=◌}
use Rattle.turbosmarts.specs.declared.fault.InputFault.{InputFault}
use Rattle.turbosmarts.specs.Sharing.{sharing_of}
use Rattle.turbosmarts.specs.Stages.{Written, library_or_fault, library_written}

-- the same points under the same header, but for the version
abbrev pub migrated : Whole → Whole
migrated library = record {
  head = record library.head { version = 2 };
  shared = sharing_of library.points;
  points = library.points;
}

-- the migrated library of the input, or the first fault: of the library, of the length of the new one
unfoldable pub migrate_result : List ℕ → Result Written InputFault
migrate_result input = do
  library ← library_or_fault (library_of input)
  library_written (spelling (migrated library))

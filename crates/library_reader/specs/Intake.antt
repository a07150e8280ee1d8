-- What is read of a source that gives a library.
use Rattle.std.specs.Prelude.{◌≡◌, ◌<◌, ◌≤◌, ◌+◌, ◌++◌, ℕ, List, [], length, Option, Some, None, IfSome, Result, Err}
use Rattle.livepoint_format.specs.declared.fault.LibraryFault.{LibraryFault}
use Rattle.livepoint_format.specs.Decoding.{library_of}
use Rattle.livepoint_format.specs.Values.{Point, Whole}
use Rattle.smarts_io.specs.Bytes.{Gives, IsAtEnd}
use Rattle.library_reader.specs.declared.part.Part.{Part}
use Rattle.library_reader.specs.declared.part.Part.TheVariants as parts
use Rattle.library_reader.specs.Laws.{IsReadingOf, library_at, points_in}
use Rattle.library_reader.specs.Reader.{Reading, came_in, fed}

-- The source gave these bytes, and these points were handed out.
pub record HasRead (old new : Reading) (before after : Option (List ℕ)) (points : List Point) (given : List ℕ) : Type 0 where
  pub gives : Gives before given after
  pub on : (bytes : List ℕ) (first : List Point) → IsReadingOf bytes first old → IsReadingOf (bytes ++ given) (first ++ points) new
  pub size : came_in new ≡ came_in old + length given

-- The source gave these bytes, which are all that it had, or with those before one more than a library may have. So
-- it is known what they are all together.
pub record IsOver (old : Reading) (before after : Option (List ℕ)) (expected : List Point → Result Whole LibraryFault) (given : List ℕ) : Type 0 where
  pub gives : Gives before given after
  pub whole : came_in old + length given ≤ 1073741824 → IsAtEnd after
  pub most : came_in old + length given ≤ 1073741825
  pub library : (bytes : List ℕ) (first : List Point) → IsReadingOf bytes first old → length bytes ≡ came_in old
      → library_of (bytes ++ given) ≡ expected first

-- as many points were handed out as the header says
abbrev pub AreAll : Reading → Type 0
AreAll old = (bytes : List ℕ) (first : List Point) → IsReadingOf bytes first old
    → IfSome old.front (λ front. length first ≡ front.0.points)

-- what was read for a part that is handed out: for the end and for a fault all of the source
abbrev pub IsHandedOn : Part → Reading → Reading → Option (List ℕ) → Option (List ℕ) → Type 0
IsHandedOn parts.Header old new before after = (given : List ℕ) × HasRead old new before after [] given
IsHandedOn (parts.Point point) old new before after =
    (given : List ℕ) × HasRead old new before after (points_in (parts.Point point)) given
IsHandedOn parts.More old new before after = ⊥
IsHandedOn parts.End old new before after =
    (given : List ℕ) × IsOver old before after (library_at None old.front) given × AreAll old
IsHandedOn (parts.Fault fault) old new before after = (given : List ℕ) × IsOver old before after (λ first. Err fault) given

-- what one read of the source gave, and that it was fed where there was room for it
pub record IsPiece (count room : ℕ) (given : List ℕ) (old new : Reading) : Type 0 where
  pub count_is : count ≡ length given
  pub none_came : count ≡ 0 → new ≡ old
  pub came : 0 < count → count ≤ room → new ≡ fed given old
  pub over : room < count → new ≡ old

-- bytes came in, and nothing was handed out
pub record HasFed (old new : Reading) (before after : Option (List ℕ)) (given : List ℕ) : Type 0 where
  pub read : HasRead old new before after [] given
  pub front : new.front ≡ old.front

-- a part was handed out, or at least one byte came in
abbrev pub IsStepped : Option Part → Reading → Reading → Option (List ℕ) → Option (List ℕ) → Type 0
IsStepped (Some part) old new before after = IsHandedOn part old new before after
IsStepped None old new before after = (given : List ℕ) × HasFed old new before after given × (0 < length given) × (came_in new ≤ 1073741824)

-- What ties the parts that were handed out to the library that all bytes are.
use Rattle.std.specs.Prelude.{◌≡◌, ℕ, ◌-◌, ◌≤◌, List, [], ◌∷◌, ◌++◌, length, Bool, true, false, Option, Some, None, IsSome, Result, Ok, Err}
use Rattle.livepoint_format.specs.declared.fault.LibraryFault.{LibraryFault}
use Rattle.livepoint_format.specs.declared.fault.LibraryFault.TheVariants as faults
use Rattle.livepoint_format.specs.Decoding.{point_after, end_at, whole_at, ended, library_of}
use Rattle.livepoint_format.specs.Reading.{Reader, items, starts_at, done, ◌>>=◌}
use Rattle.livepoint_format.specs.Values.{Point, Whole}
use Rattle.library_reader.specs.declared.part.Part.{Part}
use Rattle.library_reader.specs.declared.part.Part.TheVariants as parts
use Rattle.library_reader.specs.Reader.{Front, Reading, due, fed, final_fault, fresh, next_part}

abbrev pub whole_of : Front → List Point → Whole
whole_of front points = record { head = front.0; shared = front.1; points = points }

-- so many more points behind these, and the end
unfoldable pub others : Front → ℕ → List Point → Reader Whole
others front count points = do
  all ← items (point_after front.0 front.1) count points
  _ ← end_at
  done (whole_of front all)

-- what is still to be read of a library of which this was handed out
abbrev pub still : Bool → Option Front → List Point → Reader Whole
still ended None points = whole_at
still true (Some front) points = done (whole_of front points)
still false (Some front) points = others front (front.0.points - length points) points

abbrev pub library_by : Option LibraryFault → Reading → List Point → List ℕ → Result Whole LibraryFault
library_by (Some fault) r points more = Err fault
library_by None r points more =
    ended (still r.ended r.front points (record { place = r.taken; rest = r.unread ++ more }))

-- no more points than the header says, and all of them where the end was handed out
abbrev pub AreOf : Bool → Option Front → ℕ → Type 0
AreOf ended None count = (count ≡ 0) × (ended ≡ false)
AreOf true (Some front) count = count ≡ front.0.points
AreOf false (Some front) count = count ≤ front.0.points

-- These bytes came in, and these points were handed out: whatever bytes come behind, reading all of them at once is
-- reading on from here.
pub record IsReadingOf (bytes : List ℕ) (points : List Point) (r : Reading) : Type 0 where
  pub count : r.points ≡ length points
  pub of : AreOf r.ended r.front (length points)
  pub is : (more : List ℕ) → ended (whole_at (starts_at 0 (bytes ++ more))) ≡ library_by r.fault r points more

abbrev pub points_in : Part → List Point
points_in (parts.Point point) = point ∷ []
points_in part = []

-- the header is there once it was handed out, before any point, and stays
abbrev pub IsFrontBehind : Part → Option Front → Option Front → Type 0
IsFrontBehind parts.Header old new = (old ≡ None) × IsSome new
IsFrontBehind (parts.Point point) old new = IsSome old × (new ≡ old)
IsFrontBehind part old new = new ≡ old

-- for what is handed out in the end nothing is said
abbrev pub IsMidFront : Part → Option Front → Option Front → Type 0
IsMidFront parts.Header old new = (old ≡ None) × IsSome new
IsMidFront (parts.Point point) old new = IsSome old × (new ≡ old)
IsMidFront part old new = Unit {0}

abbrev pub IsCut : Result (Part × Reading) LibraryFault → Type 0
IsCut (Err (faults.Truncated end)) = Unit {0}
IsCut due = ⊥

abbrev pub IsSettledBy : Option LibraryFault → Bool → Reading → Type 0
IsSettledBy (Some fault) ended r = Unit {0}
IsSettledBy None true r = Unit {0}
IsSettledBy None false r = IsCut (due r)

-- nothing more can be handed out of what came in: there was a fault, or the end, or the next part is cut
abbrev pub IsSettled : Reading → Type 0
IsSettled r = IsSettledBy r.fault r.ended r

-- a part that settles it
abbrev pub IsLast : Part → Type 0
IsLast parts.Header = ⊥
IsLast (parts.Point point) = ⊥
IsLast part = Unit {0}

abbrev pub library_at : Option LibraryFault → Option Front → List Point → Result Whole LibraryFault
library_at (Some fault) front points = Err fault
library_at None (Some front) points = Ok (whole_of front points)
library_at None None points = Err faults.BadMagic

pub record ReadingsAre : Type 0 where
  pub starts : IsReadingOf [] [] fresh
  pub feeds : (bytes piece : List ℕ) (points : List Point) (r : Reading) → IsReadingOf bytes points r
      → IsReadingOf (bytes ++ piece) points (fed piece r)
  pub next : (bytes : List ℕ) (points : List Point) (r : Reading) → IsReadingOf bytes points r
      → IsReadingOf bytes (points ++ points_in (next_part r).0) (next_part r).1
  pub settles : (r : Reading) → IsLast (next_part r).0 → IsSettled (next_part r).1
  -- where all bytes came in, they are the library with this header, table and points, or have this fault
  pub ends : (bytes : List ℕ) (points : List Point) (r : Reading) → IsReadingOf bytes points r → IsSettled r
      → length bytes ≤ 1073741824 → library_of bytes ≡ library_at (final_fault r) r.front points
  -- a fault stays, whatever comes behind
  pub faulty : (bytes more : List ℕ) (points : List Point) (r : Reading) (fault : LibraryFault) → IsReadingOf bytes points r
      → r.fault ≡ Some fault → length (bytes ++ more) ≤ 1073741824 → library_of (bytes ++ more) ≡ Err fault

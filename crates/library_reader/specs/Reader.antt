-- Reading a library whose bytes come in pieces.
use Rattle.std.specs.Prelude.{ℕ, suc, ◌+◌, ◌==◌, List, [], ◌++◌, length, Bool, true, false, nat_lt, if◌then◌else◌, Option, Some, None, Result, Ok, Err}
use Rattle.livepoint_format.specs.declared.fault.LibraryFault.{LibraryFault}
use Rattle.livepoint_format.specs.declared.fault.LibraryFault.TheVariants as faults
use Rattle.livepoint_format.specs.Decoding.{header_at, point_at, end_at}
use Rattle.livepoint_format.specs.Format.{unit_of}
use Rattle.livepoint_format.specs.Reading.{Spot}
use Rattle.livepoint_format.specs.Values.{Head, Point}
use Rattle.library_reader.specs.declared.part.Part.{Part}
use Rattle.library_reader.specs.declared.part.Part.TheVariants as parts

-- a header and the table behind it
abbrev pub Front : Type 0
Front = Head × List (ℕ × ℕ)

-- How far a library has been read: the bytes that came and weren't read yet, and how many were read; the header with
-- its table, how many points and whether the end were handed out; and the fault that was met.
pub record Reading : Type 0 where
  pub unread : List ℕ
  pub taken : ℕ
  pub front : Option Front
  pub points : ℕ
  pub ended : Bool
  pub fault : Option LibraryFault

abbrev pub fresh : Reading
fresh = record { unread = []; taken = 0; front = None; points = 0; ended = false; fault = None }

-- how many bytes came in
abbrev pub came_in : Reading → ℕ
came_in r = r.taken + length r.unread

-- a piece came in behind
abbrev pub fed : List ℕ → Reading → Reading
fed piece r = record r { unread = r.unread ++ piece }

-- where what is unread begins
abbrev pub spot : Reading → Spot
spot r = record { place = r.taken; rest = r.unread }

-- it begins here from now on
abbrev pub at_spot : Spot → Reading → Reading
at_spot at r = record r { unread = at.rest; taken = at.place }

abbrev pub with_header : Reading → Front × Spot → Part × Reading
with_header r x = (parts.Header, record (at_spot x.1 r) { front = Some x.0 })

abbrev pub with_point : Reading → Point × Spot → Part × Reading
with_point r x = (parts.Point x.0, record (at_spot x.1 r) { points = suc r.points })

abbrev pub with_end : Reading → ℕ × Spot → Part × Reading
with_end r x = (parts.End, record (at_spot x.1 r) { ended = true })

abbrev pub handed : {A : Type 0} → (A × Spot → Part × Reading) → Result (A × Spot) LibraryFault → Result (Part × Reading) LibraryFault
handed out (Ok x) = Ok (out x)
handed out (Err fault) = Err fault

-- the part that stands behind a header and its table: the next of its points, else the end
abbrev pub behind : Front → Reading → Result (Part × Reading) LibraryFault
behind front r =
    if nat_lt r.points front.0.points
    then handed (with_point r) (point_at front.0 front.1 r.points (unit_of front.0 r.points) (spot r))
    else handed (with_end r) (end_at (spot r))

abbrev pub due_behind : Option Front → Reading → Result (Part × Reading) LibraryFault
due_behind None r = handed (with_header r) (header_at (spot r))
due_behind (Some front) r = behind front r

-- the part that is due, and how far the library is then read; or its first fault
abbrev pub due : Reading → Result (Part × Reading) LibraryFault
due r = due_behind r.front r

abbrev pub refused : Reading → LibraryFault → Part × Reading
refused r fault = (parts.Fault fault, record r { fault = Some fault })

-- a part that ends too early waits for more
abbrev pub part_or_more : Reading → Result (Part × Reading) LibraryFault → Part × Reading
part_or_more r (Ok x) = x
part_or_more r (Err (faults.Truncated end)) = (parts.More, r)
part_or_more r (Err fault) = refused r fault

-- nothing may stand behind the end
abbrev pub after_end : Reading → Part × Reading
after_end r = if length r.unread == 0 then (parts.End, r) else refused r (faults.TrailingBytes r.taken)

abbrev pub next_by : Option LibraryFault → Bool → Reading → Part × Reading
next_by (Some fault) ended r = (parts.Fault fault, r)
next_by None true r = after_end r
next_by None false r = part_or_more r (due r)

-- what is handed out next, and how far the library is then read
unfoldable pub next_part : Reading → Part × Reading
next_part r = next_by r.fault r.ended r

abbrev pub fault_by : Option LibraryFault → Bool → Reading → Option LibraryFault
fault_by (Some fault) ended r = Some fault
fault_by None true r = if length r.unread == 0 then None else Some (faults.TrailingBytes r.taken)
fault_by None false r = Some (faults.Truncated (r.taken + length r.unread))

-- what is handed out in the end
abbrev pub last_part : Option LibraryFault → Part
last_part None = parts.End
last_part (Some fault) = parts.Fault fault

-- the fault of a library of which no more bytes come
abbrev pub final_fault : Reading → Option LibraryFault
final_fault r = fault_by r.fault r.ended r

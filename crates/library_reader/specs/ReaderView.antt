-- What the fields of a reader tell.
use Rattle.std.specs.Prelude.{◌≡◌, ◌+◌, ◌≤◌, ℕ, Option, Some, None, drop, length}
use Rattle.livepoint_format.specs.Reads.{IsBytes}
use Rattle.library_reader.specs.declared.reader.Reader.TheInside.{Inside}
use Rattle.library_reader.specs.Reader.{Front, Reading}

abbrev pub reading_of : Inside → Reading
reading_of fields = record {
  unread = drop fields.start fields.bytes.items;
  taken = fields.taken;
  front = fields.front;
  points = fields.points;
  ended = fields.ended;
  fault = fields.fault;
}

-- before the header nothing was read, and behind it no more points than it says
abbrev pub AreWithin : Option Front → ℕ → ℕ → Type 0
AreWithin None points taken = (points ≡ 0) × (taken ≡ 0)
AreWithin (Some front) points taken = (points ≤ front.0.points) × (front.0.points ≤ 65536)

pub record IsReader (fields : Inside) : Type 0 where
  pub start : fields.start ≤ length fields.bytes.items
  pub room : length fields.bytes.items ≤ 1073741824
  pub size : fields.taken + length (drop fields.start fields.bytes.items) ≤ 1073741824
  pub points : AreWithin fields.front fields.points fields.taken
  pub bytes : IsBytes fields.bytes.items

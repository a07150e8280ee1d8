-- The fields of records and of snapshots, seen as what they tell.
use Rattle.std.specs.Prelude.{◌≡◌, ◌+◌, ◌-◌, ◌*◌, ◌<◌, ◌≤◌, ℕ, List, length, map, slice_index}
use Rattle.lru_plain.specs.Shape.{sets_of}
use Rattle.lru_plain.specs.Lists.{free_block}
use Rattle.recency_record.specs.declared.entry.Entry.{Entry}
use Rattle.recency_record.specs.declared.lists.RecencyLists.TheInside.{Inside as ListsInside}
use Rattle.recency_record.specs.declared.record.Record.TheInside.{Inside as RecordInside}
use Rattle.recency_record.specs.declared.snapshot.Snapshot.TheInside.{Inside as SnapshotInside}
use Rattle.recency_record.specs.declared.snapshot.builder.SnapshotBuilder.TheInside.{Inside as BuilderInside}
use Rattle.recency_record.specs.Recency.{Recency, IsRecency}
use Rattle.recency_record.specs.Slots.{Slots, slots_in, ordered}
use Rattle.recency_record.specs.Parts.{parts, starts_from, in_a_row, AreStarts}

abbrev pub recency_of_lists : ListsInside → Recency
recency_of_lists fields = record { shape = fields.lists.shape; time = fields.time; sets = fields.lists.sets }

abbrev pub slots_of_record : RecordInside → Slots
slots_of_record fields = record {
  shape = fields.geometry;
  time = fields.time;
  slots = slots_in fields.geometry fields.blocks.items fields.stamps.items;
}

-- a free slot has stamp 0, and a number that no block has
pub record IsRecord (fields : RecordInside) : Type 0 where
  pub recency : IsRecency (ordered (slots_of_record fields))
  pub last_set : fields.mask ≡ sets_of fields.geometry - 1
  pub blocks : length fields.blocks.items ≡ sets_of fields.geometry * fields.geometry.ways
  pub stamps : length fields.stamps.items ≡ sets_of fields.geometry * fields.geometry.ways
  pub last : fields.last < length fields.blocks.items
  pub free :
      (place : ℕ) → place < length fields.blocks.items → slice_index fields.stamps.items place ≡ 0
      → slice_index fields.blocks.items place ≡ free_block

abbrev pub recency_of_snapshot : SnapshotInside → Recency
recency_of_snapshot fields = record {
  shape = fields.geometry;
  time = fields.time;
  sets = parts fields.starts.items fields.entries.items;
}

pub record IsSnapshot (fields : SnapshotInside) : Type 0 where
  pub recency : IsRecency (recency_of_snapshot fields)
  pub starts : AreStarts (length fields.entries.items) fields.starts.items
  pub count : length fields.starts.items ≡ sets_of fields.geometry + 1

abbrev pub sets_of_builder : BuilderInside → List (List Entry)
sets_of_builder fields = parts fields.starts.items fields.entries.items

pub record IsBuilder (fields : BuilderInside) : Type 0 where
  pub starts : fields.starts.items ≡ starts_from 0 (map length (sets_of_builder fields))
  pub row : fields.entries.items ≡ in_a_row (sets_of_builder fields)
  pub short : length fields.entries.items ≤ length (sets_of_builder fields) * 16

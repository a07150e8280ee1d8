-- What the fields of a front tell.
use Rattle.std.specs.Prelude.{◌≡◌, ◌<◌, ℕ, length, slice_index}
use Rattle.livepoint_format.specs.Format.{IsHeader, AreShared, is_first}
use Rattle.livepoint_format.specs.Views.{head_of}
use Rattle.sample_design.specs.Order.{order_of}
use Rattle.library_reader.specs.declared.front.Front.TheInside.{Inside}
use Rattle.library_reader.specs.Reader.{Front}

abbrev pub front_of : Inside → Front
front_of fields = (head_of fields.header, fields.shared)

-- a header of the grammar, whose budget reads as 1, its table, and the order in which its points come
pub record IsFront (fields : Inside) : Type 0 where
  pub header : IsHeader (head_of fields.header)
  pub budget : fields.header.design.budget ≡ 1
  pub table : AreShared (is_first (head_of fields.header)) fields.shared
  pub order : fields.order ≡ order_of fields.header.points fields.header.design.seed
  pub len : length fields.order ≡ fields.header.points
  pub below : (k : ℕ) → k < fields.header.points → slice_index fields.order k < fields.header.points

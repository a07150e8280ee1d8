-- A library's fields as what its bytes tell.
use Rattle.livepoint_format.specs.declared.library.Library.TheInside.{Inside}
use Rattle.livepoint_format.specs.Values.{Whole}
use Rattle.livepoint_format.specs.Views.{head_of}

abbrev pub whole_of : Inside → Whole
whole_of fields = record {
  head = head_of fields.header;
  shared = fields.shared;
  points = fields.points.items;
}

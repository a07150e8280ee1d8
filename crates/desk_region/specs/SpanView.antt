-- A span's fields and its stretch, which are the same.
use Rattle.desk_region.specs.declared.span.Span.TheInside.{Inside}
use Rattle.desk_region.specs.Span.{Stretch}

abbrev pub stretch_of : Inside → Stretch
stretch_of fields = record { start = fields.start; len = fields.len }

abbrev pub fields_of : Stretch → Inside
fields_of span = record { start = span.start; len = span.len }

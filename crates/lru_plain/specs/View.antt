-- A geometry's fields and its shape, which are the same.
use Rattle.lru_plain.specs.declared.geometry.Geometry.TheInside.{Inside}
use Rattle.lru_plain.specs.Shape.{Shape}

abbrev pub shape_of : Inside → Shape
shape_of fields = record { line_log = fields.line_log; sets_log = fields.sets_log; ways = fields.ways }

abbrev pub fields_of : Shape → Inside
fields_of g = record { line_log = g.line_log; sets_log = g.sets_log; ways = g.ways }

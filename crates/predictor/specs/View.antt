-- The fields of an image, seen as tables.
use Rattle.predictor.specs.declared.image.PredictorImage.TheInside.{Inside}
use Rattle.predictor.specs.Tables.{Tables}

abbrev pub tables_of : Inside → Tables
tables_of fields = record {
  kind = fields.kind;
  counters = fields.counters.items;
  history = fields.history;
  targets = fields.targets.items;
  stack = fields.stack.items;
}

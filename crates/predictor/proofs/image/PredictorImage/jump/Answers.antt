use Rattle.std.proofs.Common.{◌∙◌}
use Rattle.std.proofs.lemmas.List.{length-set}
use Rattle.predictor.specs.View.{tables_of}
use Rattle.predictor.proofs.Ranges.{jump_in_range}
use Rattle.predictor.proofs.image.PredictorImage.jump.Goals as goal

pub invariant_of-self : goal.invariant_of-self
invariant_of-self c = record {
  tables = record {
    kind = c.self.invariant.tables.kind;
    counters = c.self.invariant.tables.counters;
    history = c.self.invariant.tables.history;
    targets = length-set c.self.inside.targets.items c.low_bits-place.result (c.args.pc, c.args.next) ∙ c.self.invariant.tables.targets;
    stack = c.self.invariant.tables.stack;
  };
  ranges = rw c.low_bits-place.ensures.value
      (jump_in_range (tables_of c.self.inside) c.args.pc c.args.next c.requires.pc c.requires.next c.self.invariant.ranges);
}

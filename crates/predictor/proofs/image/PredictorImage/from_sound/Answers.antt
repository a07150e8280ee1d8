use Rattle.predictor.proofs.Faults.{history_below}
use Rattle.predictor.proofs.image.PredictorImage.from_sound.Goals as goal

pub invariant_of-result : goal.invariant_of-result
invariant_of-result c = record {
  tables = record {
    kind = c.requires.kind;
    counters = c.requires.counters;
    history = history_below c.args.kind.scheme c.args.kind.bits c.args.history c.requires.ranges.history;
    targets = c.requires.targets;
    stack = c.requires.stack;
  };
  ranges = c.requires.ranges;
}

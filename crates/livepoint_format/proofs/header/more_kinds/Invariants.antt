use Rattle.std.proofs.Common.{◌≡◌, ◌-◌, length}
use Rattle.livepoint_format.specs.Reading.{items}
use Rattle.livepoint_format.specs.Decoding.{kind_after}
use Rattle.livepoint_format.proofs.header.more_kinds.Given as goal

abbrev pub invariant-loop : goal.invariant-loop
invariant-loop l = record {
  long : length l.kinds ≡ l.counter;
  read : items kind_after (l.count - l.counter) l.kinds l.cursor ≡ items kind_after (l.count - 1) l.fn.first l.fn.cursor;
}

use Rattle.std.proofs.Common.{◌≡◌, ◌-◌, [], length}
use Rattle.livepoint_format.specs.Reading.{items}
use Rattle.livepoint_format.specs.Decoding.{shared_after}
use Rattle.livepoint_format.proofs.header.shared_pairs.Given as goal

abbrev pub invariant-loop : goal.invariant-loop
invariant-loop l = record {
  long : length l.pairs.items ≡ l.counter;
  read : items shared_after (l.count - l.counter) l.pairs.items l.cursor ≡ items shared_after l.count [] l.fn.cursor;
}

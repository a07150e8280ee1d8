use Rattle.std.proofs.Common.{◌≡◌, ◌-◌, [], length}
use Rattle.livepoint_format.specs.Reading.{items}
use Rattle.livepoint_format.specs.Decoding.{target_after}
use Rattle.livepoint_format.proofs.image.targets.Given as goal

abbrev pub invariant-loop : goal.invariant-loop
invariant-loop l = record {
  long : length l.targets.items ≡ l.counter;
  read : items (target_after l.kind) (l.count - l.counter) l.targets.items l.cursor ≡ items (target_after l.kind) l.count [] l.fn.cursor;
}

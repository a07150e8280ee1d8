use Rattle.std.proofs.Common.{◌≡◌, ◌-◌, [], length}
use Rattle.livepoint_format.specs.Reading.{items}
use Rattle.livepoint_format.specs.Decoding.{address_after}
use Rattle.livepoint_format.proofs.image.addresses.Given as goal

abbrev pub invariant-loop : goal.invariant-loop
invariant-loop l = record {
  long : length l.stack.items ≡ l.counter;
  read : items address_after (l.count - l.counter) l.stack.items l.cursor ≡ items address_after l.count [] l.fn.cursor;
}

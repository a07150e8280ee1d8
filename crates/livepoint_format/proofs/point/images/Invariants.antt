use Rattle.std.proofs.Common.{◌≡◌, ◌-◌, [], length}
use Rattle.livepoint_format.specs.Reading.{items}
use Rattle.livepoint_format.specs.Decoding.{image_after}
use Rattle.livepoint_format.proofs.point.images.Given as goal

abbrev pub invariant-loop-i : goal.invariant-loop-i
invariant-loop-i l = record {
  long : length l.images.items ≡ l.i;
  read : items (image_after l.kinds) (l.count - l.i) l.images.items l.cursor ≡ items (image_after l.kinds) (length l.kinds) [] l.fn.cursor;
}

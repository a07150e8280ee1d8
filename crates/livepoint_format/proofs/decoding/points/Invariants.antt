use Rattle.std.proofs.Common.{◌≡◌, ◌-◌, [], length}
use Rattle.livepoint_format.specs.Reading.{items}
use Rattle.livepoint_format.specs.Views.{head_of}
use Rattle.livepoint_format.specs.Decoding.{point_after}
use Rattle.livepoint_format.proofs.decoding.points.Given as goal

abbrev pub invariant-loop-k : goal.invariant-loop-k
invariant-loop-k l = record {
  long : length l.points.items ≡ l.k;
  read : items (point_after (head_of l.header) l.shared) (l.count - l.k) l.points.items l.cursor
      ≡ items (point_after (head_of l.header) l.shared) l.header.points [] l.fn.cursor;
}

use Rattle.std.proofs.Common.{◌≡◌, ◌-◌, [], length, take}
use Rattle.livepoint_format.specs.Reading.{items}
use Rattle.livepoint_format.specs.Decoding.{entry_after}
use Rattle.livepoint_format.proofs.entries.one_by_one.Given as goal

abbrev pub invariant-loop-i : goal.invariant-loop-i
invariant-loop-i l = record {
  len : length l.row ≡ length l.fn.row;
  read : items (entry_after l.which l.limit l.set) (l.count - l.i) (take l.i l.row) l.cursor
      ≡ items (entry_after l.which l.limit l.set) l.count [] l.fn.cursor;
}

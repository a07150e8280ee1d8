use Rattle.std.proofs.Common.{◌≡◌, ◌*◌, length, take}
use Rattle.livepoint_format.specs.Entries.{AreRead}
use Rattle.livepoint_format.proofs.entries.fill.Given as goal

abbrev pub invariant-loop-i : goal.invariant-loop-i
invariant-loop-i l = record {
  len : length l.row ≡ length l.fn.row;
  read : AreRead l.which.shape l.limit l.set (take (12 * l.i) l.text) (take l.i l.row);
}

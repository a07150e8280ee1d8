use Rattle.std.proofs.Common.{◌≡◌, ◌≤◌, ◌*◌, ◌^◌, length, take}
use Rattle.std.specs.Prelude.{flat_map}
use Rattle.livepoint_format.specs.Format.{point}
use Rattle.livepoint_format.proofs.lengths.points_len.Given as goal

abbrev pub invariant-loop-i : goal.invariant-loop-i
invariant-loop-i l = record {
  value : l.total ≡ length (flat_map (point l.first l.shared) (take l.i l.points));
  few : l.total ≤ 2 ^ 35 * l.i;
}

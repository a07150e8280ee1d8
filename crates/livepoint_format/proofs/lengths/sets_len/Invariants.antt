use Rattle.std.proofs.Common.{◌≡◌, ◌≤◌, ◌*◌, length, take}
use Rattle.std.specs.Prelude.{flat_map}
use Rattle.livepoint_format.specs.Format.{set}
use Rattle.livepoint_format.proofs.lengths.sets_len.Given as goal

abbrev pub invariant-loop-i : goal.invariant-loop-i
invariant-loop-i l = record {
  value : l.total ≡ length (flat_map set (take l.i l.snapshot.sets));
  few : l.total ≤ 193 * l.i;
}

use Rattle.std.proofs.Common.{◌≡◌, ◌≤◌, ◌*◌, length, take}
use Rattle.std.specs.Prelude.{flat_map}
use Rattle.livepoint_format.specs.Format.{image}
use Rattle.livepoint_format.proofs.lengths.images_len.Given as goal

abbrev pub invariant-loop-i : goal.invariant-loop-i
invariant-loop-i l = record {
  value : l.total ≡ length (flat_map image (take l.i l.images));
  few : l.total ≤ 65536 * l.i;
}

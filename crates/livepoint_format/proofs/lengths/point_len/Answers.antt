use Rattle.std.proofs.Common.{arith}
use Rattle.livepoint_format.proofs.LengthsLemmas.{point_long}
use Rattle.livepoint_format.proofs.lengths.point_len.Goals as goal

pub returns-clause-value : goal.returns-clause-value
returns-clause-value c =
    omega (
      arith,
      point_long c.args.first c.args.shared.now c.args.point.now,
      c.registers_len.ensures.value,
      c.memory_len.ensures.value,
      c.snapshots_len.ensures.value,
      c.images_len.ensures.value,
    )

use Rattle.std.proofs.Common.{length, ap, arith}
use Rattle.livepoint_format.specs.Format.{design_of}
use Rattle.livepoint_format.proofs.HeaderLaws.{points_few}
use Rattle.livepoint_format.proofs.lengths.encoded_len.Goals as goal

pub points_len-requires : goal.points_len-requires
points_len-requires c =
    let whole = c.header-header.ensures.whole in
    omega (
      arith,
      ap length c.points.ensures,
      whole.count,
      points_few (design_of c.args.library.now.head) c.args.library.now.head.instructions c.args.library.now.head.points whole.header.points,
    )

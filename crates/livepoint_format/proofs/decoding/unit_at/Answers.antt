use Rattle.std.proofs.Common.{arith}
use Rattle.livepoint_format.specs.Views.{head_of}
use Rattle.livepoint_format.proofs.DecodingLemmas.{unit_fits}
use Rattle.livepoint_format.proofs.decoding.unit_at.Goals as goal

pub at-requires : goal.at-requires
at-requires c = omega (arith, c.requires.len, c.requires.k)

pub overflow_cast-result : goal.overflow_cast-result
overflow_cast-result c =
    let fits = unit_fits (head_of c.args.header.now) c.requires.header c.at.result
    (rw c.at.ensures (c.requires.below c.args.k c.requires.k)) in
    rw (c.from.ensures, c.from-2.ensures, c.from-turn.ensures) (record { fits = fits })

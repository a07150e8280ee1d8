use Rattle.std.proofs.Common.{length, ap, arith}
use Rattle.livepoint_format.proofs.LengthsLemmas.{image_long, image_small}
use Rattle.livepoint_format.proofs.lengths.image_len.Goals as goal

pub returns-clause-value : goal.returns-clause-value
returns-clause-value c =
    omega (arith, image_long c.args.image.now, ap length c.counters.ensures.value, ap length c.targets.ensures.value, ap length c.stack.ensures.value)

pub returns-clause-few : goal.returns-clause-few
returns-clause-few c =
    let small = image_small c.args.image.now c.counters.ensures.image in
    omega (arith, small.0, small.1.0, small.1.1, ap length c.counters.ensures.value, ap length c.targets.ensures.value, ap length c.stack.ensures.value)

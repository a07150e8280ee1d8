use Rattle.std.proofs.Common.{arith}
use Rattle.recency_record.proofs.Rows.{sets_few}
use Rattle.livepoint_format.proofs.lengths.sets_len.Goals as goal

pub returns-clause-few : goal.returns-clause-few
returns-clause-few c =
    omega (arith, c.loop-i.invariant.few, c.sets-count.ensures.value, sets_few c.geometry.result c.sets-count.ensures.shape)

use Rattle.std.proofs.Common.{arith}
use Rattle.recency_record.proofs.Rows.{sets_few}
use Rattle.recency_record.proofs.lists.RecencyLists.snapshot.Goals as goal

pub push-requires-clause-few : goal.push-requires-clause-few
push-requires-clause-few c =
    omega (
      arith,
      c.loop-set.invariant.count,
      c.loop-set-test.true,
      c.sets-set-end.ensures.value,
      sets_few c.geometry-geometry.result c.sets-set-end.ensures.shape,
    )

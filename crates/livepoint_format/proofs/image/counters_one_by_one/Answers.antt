use Rattle.std.proofs.Common.{arith}
use Rattle.livepoint_format.specs.Decoding.{counter_after}
use Rattle.livepoint_format.proofs.Loops.{fails}
use Rattle.livepoint_format.proofs.image.counters_one_by_one.Goals as goal

pub returns-in_err-counter : goal.returns-in_err-counter
returns-in_err-counter c =
    fails (λ v. v.items) c.from_residual.result c.counter.new.cursor counter_after c.args.count c.loop.counter c.loop.counters.items
    c.loop.cursor c.in_err-counter.field-0.0 _ (omega arith) c.from_residual.ensures.1 c.in_err-counter.ensures c.loop.invariant

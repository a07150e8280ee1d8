use Rattle.std.proofs.Common.{arith}
use Rattle.livepoint_format.specs.Decoding.{shared_after}
use Rattle.livepoint_format.specs.Reads.{Refuses}
use Rattle.livepoint_format.proofs.Loops.{fails}
use Rattle.livepoint_format.proofs.header.shared_pairs.Goals as goal

pub returns-in_err-pair : goal.returns-in_err-pair
returns-in_err-pair c =
    let refused : Refuses c.in_err-pair.field-0.0 (shared_after c.loop.pairs.items c.loop.cursor) = rw c.as_slice.ensures.value at c.in_err-pair.ensures in
    fails (λ v. v.items) c.from_residual.result c.shared_after.new.cursor shared_after c.args.count c.loop.counter c.loop.pairs.items
    c.loop.cursor c.in_err-pair.field-0.0 _ (omega arith) c.from_residual.ensures.1 refused c.loop.invariant.read

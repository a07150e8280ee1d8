use Rattle.std.proofs.Common.{arith}
use Rattle.livepoint_format.specs.Decoding.{target_after}
use Rattle.livepoint_format.specs.Reads.{Refuses}
use Rattle.livepoint_format.proofs.Loops.{fails}
use Rattle.livepoint_format.proofs.image.targets.Goals as goal

pub returns-in_err-entry : goal.returns-in_err-entry
returns-in_err-entry c =
    let refused : Refuses c.in_err-entry.field-0.0 (target_after c.args.kind c.loop.targets.items c.loop.cursor) = rw c.as_slice.ensures.value at c.in_err-entry.ensures in
    fails (λ v. v.items) c.from_residual.result c.target_after.new.cursor (target_after c.args.kind) c.args.count c.loop.counter c.loop.targets.items
    c.loop.cursor c.in_err-entry.field-0.0 _ (omega arith) c.from_residual.ensures.1 refused c.loop.invariant.read

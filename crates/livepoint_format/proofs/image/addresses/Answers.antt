use Rattle.std.proofs.Common.{arith}
use Rattle.livepoint_format.specs.Decoding.{address_after}
use Rattle.livepoint_format.proofs.Loops.{fails}
use Rattle.livepoint_format.proofs.image.addresses.Goals as goal

pub returns-in_err-address : goal.returns-in_err-address
returns-in_err-address c =
    fails (λ v. v.items) c.from_residual.result c.address.new.cursor address_after c.args.count c.loop.counter c.loop.stack.items
    c.loop.cursor c.in_err-address.field-0.0 _ (omega arith) c.from_residual.ensures.1 c.in_err-address.ensures c.loop.invariant.read

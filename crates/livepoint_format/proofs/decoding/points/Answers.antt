use Rattle.std.proofs.Common.{arith, sym, ap, ◌∙◌, length}
use Rattle.std.proofs.lemmas.List.{length_push}
use Rattle.livepoint_format.specs.Reads.{Refuses}
use Rattle.livepoint_format.specs.Views.{head_of}
use Rattle.livepoint_format.specs.Decoding.{point_after}
use Rattle.livepoint_format.proofs.Loops.{fails, goes_on, is_done}
use Rattle.livepoint_format.proofs.decoding.points.Goals as goal

pub returns-in_err-read : goal.returns-in_err-read
returns-in_err-read c =
    let refused : Refuses c.in_err-read.field-0.0 (point_after (head_of c.args.header.now) c.args.shared.now c.loop-k.points.items c.loop-k.cursor) =
    rw (c.loop-k.invariant.long, ← c.unit_at-unit.ensures) c.in_err-read.ensures in
    fails (λ v. v.items) c.from_residual.result c.point.new.cursor (point_after (head_of c.args.header.now) c.args.shared.now) c.args.header.now.points c.loop-k.k
    c.loop-k.points.items c.loop-k.cursor c.in_err-read.field-0.0 _ (omega arith) c.from_residual.ensures.1 refused c.loop-k.invariant.read

pub loop-k-preserved : goal.loop-k-preserved
loop-k-preserved c =
    record {
      long = omega (arith, ap length c.in_ok-push.ensures.items, length_push c.loop-k.points.items c.in_ok-read.read, c.loop-k.invariant.long);
      read = rw c.in_ok-push.ensures.items
          (goes_on (point_after (head_of c.args.header.now) c.args.shared.now) c.args.header.now.points c.loop-k.k c.loop-k.points.items c.loop-k.cursor c.in_ok-read.read
          c.point.new.cursor (omega arith) (rw (c.loop-k.invariant.long, ← c.unit_at-unit.ensures) c.in_ok-read.ensures) ∙ c.loop-k.invariant.read);
    }

pub returns : goal.returns
returns c =
    sym c.loop-k.invariant.read
    ∙ is_done (point_after (head_of c.args.header.now) c.args.shared.now) c.args.header.now.points c.loop-k.k c.loop-k.points.items c.loop-k.cursor (omega arith)

use Rattle.std.proofs.Common.{◌≡◌, Ok, List, arith, sym, ap, ◌∙◌, length}
use Rattle.std.proofs.lemmas.List.{length_push}
use Rattle.livepoint_format.specs.Format.{kind_at}
use Rattle.livepoint_format.specs.Reads.{Refuses}
use Rattle.livepoint_format.specs.Decoding.{image_after}
use Rattle.livepoint_format.proofs.Loops.{fails, goes_on, is_done}
use Rattle.livepoint_format.proofs.Follows.{some_at}
use Rattle.livepoint_format.proofs.PointLaws.{kind_is}
use Rattle.livepoint_format.proofs.point.images.Goals as goal

pub image-requires : goal.image-requires
image-requires c =
    rw (some_at c.args.kinds.now c.loop-i.i c.at.result _ c.at.ensures) at
    (kind_is c.args.kinds.now c.requires c.loop-i.i (omega (arith, c.len-count.ensures.value)))

pub returns-in_err-image : goal.returns-in_err-image
returns-in_err-image c =
    let here : kind_at c.args.kinds.now (length c.loop-i.images.items) ≡ c.at.result =
    ap (kind_at c.args.kinds.now) c.loop-i.invariant.long ∙ some_at c.args.kinds.now c.loop-i.i c.at.result _ c.at.ensures in
    let refused : Refuses c.in_err-image.field-0.0 (image_after c.args.kinds.now c.loop-i.images.items c.loop-i.cursor) = rw here c.in_err-image.ensures in
    fails (λ v. v) c.from_residual.result c.image.new.cursor (image_after c.args.kinds.now) c.len-count.result c.loop-i.i c.loop-i.images.items
    c.loop-i.cursor c.in_err-image.field-0.0 _ (omega arith) c.from_residual.ensures.1 refused c.loop-i.invariant.read

pub loop-i-preserved : goal.loop-i-preserved
loop-i-preserved c =
    let here : kind_at c.args.kinds.now (length c.loop-i.images.items) ≡ c.at.result =
    ap (kind_at c.args.kinds.now) c.loop-i.invariant.long ∙ some_at c.args.kinds.now c.loop-i.i c.at.result _ c.at.ensures in
    record {
      long = omega (arith, ap length c.in_ok-push.ensures.items, length_push c.loop-i.images.items c.in_ok-image.image, c.loop-i.invariant.long);
      read = rw c.in_ok-push.ensures.items
          (goes_on (image_after c.args.kinds.now) c.len-count.result c.loop-i.i c.loop-i.images.items c.loop-i.cursor c.in_ok-image.image
          c.image.new.cursor (omega arith) (rw here c.in_ok-image.ensures) ∙ c.loop-i.invariant.read);
    }

pub returns : goal.returns
returns c =
    sym c.loop-i.invariant.read
    ∙ is_done (image_after c.args.kinds.now) c.len-count.result c.loop-i.i c.loop-i.images.items c.loop-i.cursor (omega arith)
    ∙ ap (λ (l : List _). Ok (l, c.loop-i.cursor)) (sym c.from_list.ensures)

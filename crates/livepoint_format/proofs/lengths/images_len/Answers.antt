use Rattle.std.proofs.Common.{length, ap, arith}
use Rattle.predictor.specs.Tables.{Tables}
use Rattle.livepoint_format.specs.Format.{image}
use Rattle.livepoint_format.proofs.Follows.{some_at}
use Rattle.livepoint_format.proofs.LengthsLemmas.{one_longer}
use Rattle.livepoint_format.proofs.lengths.images_len.Goals as goal

pub loop-i-preserved : goal.loop-i-preserved
loop-i-preserved c = record {
  value = omega (
    arith,
    c.loop-i.invariant.value,
    c.image_len-total.ensures.value,
    one_longer image c.args.images.now c.loop-i.i c.at.result.now (omega (arith, c.len-count.ensures.value)),
    ap (λ (t : Tables). length (image t)) (some_at c.args.images.now c.loop-i.i c.at.result.now c.at.result.now c.at.ensures),
  );
  few = omega (arith, c.loop-i.invariant.few, c.image_len-total.ensures.few);
}

use Rattle.std.proofs.Common.{refl}
use Rattle.turbosmarts.proofs.OutOfOrderLemmas.{marked_more}
use Rattle.turbosmarts.proofs.out_of_order.OutOfOrderWatch.see.Goals as goal

pub returns-clause-sees : goal.returns-clause-sees
returns-clause-sees c =
    rw c.push_back.ensures.items (
      refl,
      refl,
      λ formed begun es before.
          marked_more _ _ _ _ _ _ _ _ _ _ before c.annotate-mark.ensures.mark
          (c.annotate-mark.ensures.marked formed)
          (c.annotate-mark.ensures.warmed _ _ _ before.state) refl,
    )

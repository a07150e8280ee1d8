use Rattle.std.proofs.Common.{◌≡◌, ◌++◌, ◌∷◌, [], ap, sym, ◌∙◌, List, take, arith}
use Rattle.std.proofs.lemmas.List.{take_more}
use Rattle.std.proofs.lemmas.List.Elements.{All-push, All-same}
use Rattle.predictor.specs.Tables.{Tables}
use Rattle.warming.specs.Learning.{IsNumbered}
use Rattle.warming.proofs.learning.Learner.images.Goals as goal

pub loop-predictor-preserved : goal.loop-predictor-preserved
loop-predictor-preserved c =
    let all : List Tables = c.deref-predictor-items.result.now in
    let i = c.loop-predictor.predictor-index in
    record {
      images =
          c.in_ok-push.ensures.items
          ∙ ap (λ (images : List Tables). images ++ c.in_ok-image.field-0 ∷ []) c.loop-predictor.invariant.images
          ∙ ap (λ (image : Tables). take i all ++ image ∷ []) (c.in_ok-image.ensures.value ∙ c.predictor-item.is)
          ∙ sym (take_more all i c.predictor-item.result (omega arith));
      each = All-same IsNumbered _ _ c.in_ok-push.ensures.items
          (All-push IsNumbered c.loop-predictor.images.items c.in_ok-image.field-0 c.loop-predictor.invariant.each c.in_ok-image.ensures.image);
    }

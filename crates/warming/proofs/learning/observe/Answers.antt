use Rattle.std.proofs.Common.{◌≡◌, sym, ap, ◌∙◌, arith}
use Rattle.std.specs.Prelude.{slice_set}
use Rattle.std.proofs.lemmas.List.Edits.{map_over_more}
use Rattle.predictor.specs.Tables.{Tables}
use Rattle.predictor.specs.Rules.{observed}
use Rattle.warming.proofs.learning.observe.Goals as goal

pub loop-predictor-preserved : goal.loop-predictor-preserved
loop-predictor-preserved c =
    ap (slice_set c.loop-predictor.predictors c.loop-predictor.predictor-index) c.observe.ensures.tables
    ∙ ap (λ (t : Tables). slice_set c.loop-predictor.predictors c.loop-predictor.predictor-index (observed t c.args.event.now)) (sym c.predictor-item.is)
    ∙ map_over_more (λ tables. observed tables c.args.event.now) c.args.predictors.now c.loop-predictor.predictors c.loop-predictor.predictor-index
    c.predictor-item.result (omega arith) c.loop-predictor.invariant c.predictor-item.is

use Rattle.predictor.proofs.Trains.{observed_kind}
use Rattle.predictor.proofs.predictor.Predictor.observe.Goals as goal

pub returns-clause-kind : goal.returns-clause-kind
returns-clause-kind c =
    rw (c.observe.ensures.tables, c.self.view_is) (observed_kind c.args.self.now c.args.event.now)

use Rattle.std.proofs.lemmas.List.Elements.{All-map, All-weaker}
use Rattle.ordered_fold.specs.Batch.{IsHeldAnswer}
use Rattle.workers.proofs.crew.fits_cells.Goals as goal

pub returns : goal.returns
returns g c = λ u takes.
    All-map IsHeldAnswer (g.S.Simulator.answer u) c.args.points.now
    (All-weaker (g.S.Simulator.takes u) (λ point. IsHeldAnswer (g.S.Simulator.answer u point))
    (λ point taken. g.met.S.Simulator.held u point taken) c.args.points.now takes)

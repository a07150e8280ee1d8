use Rattle.std.proofs.Common.{[]}
use Rattle.std.proofs.lemmas.List.Elements.{All-nil, All-push}
use Rattle.live_points.specs.declared.point.LivePoint.{LivePoint}
use Rattle.window_sim.specs.Desk.{Setup, IsServed, IsTaken}
use Rattle.window_sim.proofs.tests.a_crew_folds_the_points.Goals as goal

pub run_batch-requires-clause-takes : goal.run_batch-requires-clause-takes
run_batch-requires-clause-takes g c κs within =
    let shown : Setup = record { header = c.in_ok-header.header; config = c.in_ok-config.config } in (
      shown,
      c.in_ok-crew.ensures.alike,
      rw (c.deref.ensures.value, c.in_ok-push.ensures.items, c.new-points.ensures.items)
          (All-push (λ (p : LivePoint). IsServed shown × IsTaken shown p) [] c.in_ok-point.field-0
          (All-nil (λ (p : LivePoint). IsServed shown × IsTaken shown p))
          (c.in_ok-is_served.ensures, c.in_ok-point.ensures c.in_ok-config.config)),
    )

use Rattle.std.proofs.Common.{◌≡◌, arith}
use Rattle.std.proofs.lemmas.List.Elements.{All-push}
use Rattle.window_sim.proofs.crews.desks.Goals as goal

pub loop-desk-preserved : goal.loop-desk-preserved
loop-desk-preserved c =
    let pushes = c.in_ok-push.ensures in
    record {
      alike = rw pushes.items (All-push (λ desk. desk ≡ record { header = c.args.header.now; config = c.args.config.now }) _ _ c.loop-desk.invariant.alike c.in_ok-new.ensures);
      len = omega (arith, pushes.len, c.loop-desk.invariant.len);
    }

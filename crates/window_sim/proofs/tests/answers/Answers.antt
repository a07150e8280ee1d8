use Rattle.window_sim.proofs.tests.answers.Goals as goal

pub window-requires : goal.window-requires
window-requires c = rw c.in_ok-desk.ensures (c.in_ok-point.ensures c.in_ok-config.config)

pub window-requires-2 : goal.window-requires-2
window-requires-2 c = rw (c.window.ensures.same, c.in_ok-desk.ensures) (c.in_ok-point.ensures c.in_ok-config.config)

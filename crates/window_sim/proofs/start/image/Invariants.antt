use Rattle.window_sim.proofs.BuiltLemmas.{IsNoneOf}
use Rattle.window_sim.proofs.start.image.Given as goal

abbrev pub invariant-loop-place : goal.invariant-loop-place
invariant-loop-place l = IsNoneOf l.kind l.kinds l.place

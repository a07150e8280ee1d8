use Rattle.live_points.proofs.tests.passes.pass.Given as goal

abbrev pub invariant-loop : goal.invariant-loop
invariant-loop g l = record {
  sound : g.M.Memory.sound l.memory;
}

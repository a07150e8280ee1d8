use Rattle.std.proofs.Common.{◌≡◌, length}
use Rattle.workers.specs.Crew.{Alike}
use Rattle.window_sim.proofs.crews.desks.Given as goal

abbrev pub invariant-loop-desk : goal.invariant-loop-desk
invariant-loop-desk l = record {
  alike : Alike (λ desk. desk) (record { header = l.header; config = l.config }) l.desks.items;
  len : length l.desks.items ≡ l._desk;
}

use Rattle.std.proofs.Common.{◌≡◌, ◌-◌, ◌≤◌, length, map}
use Rattle.ordered_fold.specs.declared.ending.Ending.TheVariants.{Going}
use Rattle.workers.specs.Crew.{Alike, IsCrew}
use Rattle.workers.proofs.TallyLemmas.{IsSoFar}
use Rattle.workers.proofs.tally.run_points.Given as goal

abbrev pub invariant-loop-alloc : goal.invariant-loop-alloc
invariant-loop-alloc g l = record {
  crew : IsCrew l.crew.front l.crew.windows (length l.crew.simulators.items);
  long : length l.crew.simulators.items ≡ length l.fn.simulators.items;
  alike : (u : _) → Alike g.S.Simulator.setup u l.fn.simulators.items → Alike g.S.Simulator.setup u l.crew.simulators.items;
  within : l.first ≤ length l.points;
  going : l.crew.front.ending ≡ Going → l.crew.front.sums.n ≡ l.first;
  total : l.crew.front.total ≡ length l.points;
  so_far : (u : _) → Alike g.S.Simulator.setup u l.fn.simulators.items
      → IsSoFar l.fn.test (map (g.S.Simulator.answer u) l.points) (length l.fn.simulators.items) l.first l.crew.front l.crew.windows;
}

abbrev pub decreases-loop-alloc : goal.decreases-loop-alloc
decreases-loop-alloc g l = length l.points - l.first

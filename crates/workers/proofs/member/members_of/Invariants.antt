use Rattle.std.proofs.Common.{◌≡◌, ◌+◌, ◌≤◌, length}
use Rattle.std.specs.List.{All, sum_by}
use Rattle.std.specs.Vec.{vec_capacity}
use Rattle.workers.specs.Crew.{Alike, IsFresh, share}
use Rattle.workers.proofs.member.members_of.Given as goal

abbrev pub invariant-loop-simulator : goal.invariant-loop-simulator
invariant-loop-simulator g l = record {
  fresh : IsFresh l.board l.first;
  merged : l.first.view.merged ≡ 1;
  spare : l.first.view.spare + length l.members.items ≡ 64;
  members : All (λ m. IsFresh l.board m.pass) l.members.items;
  shares : sum_by (λ m. share m.pass.view) l.members.items ≡ length l.members.items;
  long : length l.members.items + length l.simulators.items + 1 ≡ length l.fn.simulators.items;
  reserved : length l.fn.simulators.items ≤ vec_capacity l.members;
  room : length l.fn.simulators.items ≤ vec_capacity l.simulators;
  alike : (u : _) → Alike g.S.Simulator.setup u l.fn.simulators.items
      → (g.S.Simulator.setup l.last ≡ u) × Alike g.S.Simulator.setup u l.simulators.items × All (λ m. g.S.Simulator.setup m.simulator ≡ u) l.members.items;
}

abbrev pub decreases-loop-simulator : goal.decreases-loop-simulator
decreases-loop-simulator g l = length l.simulators.items

use Rattle.std.proofs.Common.{◌≡◌, ◌+◌, ◌*◌, ◌<◌, ◌≤◌, None, length}
use Rattle.std.specs.List.{All, sum_by}
use Rattle.std.specs.Vec.{vec_capacity}
use Rattle.ordered_fold.specs.Batch.{fold_from, folded_number}
use Rattle.claim_table.specs.Board.{list_at}
use Rattle.claim_table.specs.Shown.{IsPassOf}
use Rattle.workers.specs.Worker.{IsOver}
use Rattle.workers.specs.Crew.{Alike, IsSpent, share}
use Rattle.workers.proofs.member.join_members.Given as goal

abbrev pub invariant-loop-member : goal.invariant-loop-member
invariant-loop-member g l = record {
  own : IsPassOf l.board l.first;
  hand : l.first.view.seat.hand ≡ None;
  over : IsOver l.first.view;
  points : l.first.view.points ≡ l.total;
  bound : l.total + length l.members.items * 65536 ≤ length l.fn.members.items * 65536;
  members : All (λ m. IsSpent l.board (list_at g.L.Listed.lists l.board.which) m.pass m.answered) l.members.items;
  shares : share l.first.view + sum_by (λ m. share m.pass.view) l.members.items ≡ 65;
  long : length l.members.items + length l.simulators.items ≡ length l.fn.members.items;
  some : 0 < length l.simulators.items;
  room : length l.fn.members.items ≤ vec_capacity l.simulators;
  alone : length l.fn.members.items ≡ 1
      → l.total ≡ folded_number l.board.start (fold_from l.board.start (list_at g.L.Listed.lists l.board.which) (length (list_at g.L.Listed.lists l.board.which)));
  alike : (u : _) → All (λ m. g.S.Simulator.setup m.simulator ≡ u) l.fn.members.items
      → Alike g.S.Simulator.setup u l.simulators.items × All (λ m. g.S.Simulator.setup m.simulator ≡ u) l.members.items;
}

abbrev pub decreases-loop-member : goal.decreases-loop-member
decreases-loop-member g l = length l.members.items

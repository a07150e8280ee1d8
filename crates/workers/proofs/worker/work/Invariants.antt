use Rattle.std.proofs.Common.{◌≡◌, ◌+◌, ◌-◌, ◌≤◌, length}
use Rattle.claim_table.specs.Board.{IsAlone}
use Rattle.claim_table.specs.Steps.{next_number}
use Rattle.claim_table.specs.Shown.{IsPassOf}
use Rattle.workers.specs.Worker.{IsNew, SameShare, HasFolded}
use Rattle.workers.proofs.worker.work.Given as goal

abbrev pub invariant-loop-answered : goal.invariant-loop-answered
invariant-loop-answered g l = record {
  own : IsPassOf l.board l.pass;
  table : l.pass.table ≡ l.fn.pass.table;
  id : l.pass.id ≡ l.fn.pass.id;
  share : SameShare l.fn.pass.view l.pass.view;
  simulator : g.S.Simulator.setup l.simulator ≡ g.S.Simulator.setup l.fn.simulator;
  points : l.pass.view.points ≡ l.fn.pass.view.points + l.answered;
  drawn : l.answered ≤ next_number l.pass.view.seat.last;
  few : l.answered ≤ length l.points;
  alone : IsNew l.fn.pass.view → IsAlone l.fn.pass.view → HasFolded g.L.Listed.lists l.pass.view l.answered;
}

abbrev pub decreases-loop-answered : goal.decreases-loop-answered
decreases-loop-answered g l = length l.points - next_number l.pass.view.seat.last

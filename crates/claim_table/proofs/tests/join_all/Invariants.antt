use Rattle.std.proofs.Common.{◌≡◌, ◌+◌, None, length}
use Rattle.std.specs.List.{All}
use Rattle.claim_table.specs.Shown.{IsPassOf}
use Rattle.claim_table.specs.Tests.Crew.{IsOne}
use Rattle.claim_table.proofs.tests.join_all.Given as goal

abbrev pub invariant-loop-crew : goal.invariant-loop-crew
invariant-loop-crew g l = record {
  pass : IsPassOf l.board l.first;
  hand : l.first.view.seat.hand ≡ None;
  crew : All (IsOne l.board) l.crew.items;
  all : l.first.view.spare + l.first.view.merged + length l.crew.items ≡ 65;
}

abbrev pub decreases-loop-crew : goal.decreases-loop-crew
decreases-loop-crew g l = length l.crew.items

use Rattle.std.proofs.Common.{◌≡◌, ◌+◌, ◌≤◌, None, length}
use Rattle.std.specs.List.{All}
use Rattle.claim_table.specs.Shown.{IsPassOf}
use Rattle.claim_table.specs.Tests.Crew.{IsOne}
use Rattle.claim_table.proofs.tests.crew_of.Given as goal

abbrev pub invariant-loop-pass : goal.invariant-loop-pass
invariant-loop-pass g l = record {
  pass : IsPassOf l.board l.first;
  hand : l.first.view.seat.hand ≡ None;
  spare : l.first.view.spare + l._pass ≡ l.fn.first.view.spare;
  merged : l.first.view.merged ≡ l.fn.first.view.merged;
  long : length l.crew.items ≡ l._pass;
  crew : All (IsOne l.board) l.crew.items;
}

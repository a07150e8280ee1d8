use Rattle.std.proofs.Common.{◌≡◌, ◌≤◌, ◌-◌, None, length}
use Rattle.claim_table.specs.Steps.{answers_of}
use Rattle.claim_table.specs.Calls.{HasFront}
use Rattle.claim_table.proofs.folding.fold_cells.Given as goal

abbrev pub invariant-loop-front : goal.invariant-loop-front
invariant-loop-front g l = record {
  table : l.seat.table_id ≡ l.fn.seat.table_id;
  id : l.seat.id ≡ l.fn.seat.id;
  front : HasFront g.L.Listed.lists l.seat.me None l.front;
  view : l.seat.me.0 ≡ record l.fn.seat.me.0 { held = l.seat.me.0.held; steps = l.seat.me.0.steps; glanced = l.seat.me.0.glanced };
  later : l.fn.seat.me.0.steps ≤ l.seat.me.0.steps;
}

abbrev pub decreases-loop-front : goal.decreases-loop-front
decreases-loop-front g l = length (answers_of g.L.Listed.lists l.fn.seat.me.0) - l.seat.me.0.held

use Rattle.std.proofs.Common.{◌≡◌, ◌-◌, ℕ, List, length, map}
use Rattle.std.specs.Prelude.{slice_index_or}
use Rattle.live_points.specs.declared.point.LivePoint.{LivePoint}
use Rattle.sample_design.specs.Order.{order_of, exchanged}
use Rattle.warming.proofs.visiting.put_in_visit_order.Given as goal

abbrev pub invariant-loop-i : goal.invariant-loop-i
invariant-loop-i l = record {
  places : List ℕ;
  wide : length places ≡ length l.fn.points.items;
  rest : exchanged (l.i - 1) l.draws.state places ≡ order_of (length l.fn.points.items) l.seed;
  are : (d : LivePoint) → l.points.items ≡ map (λ p. slice_index_or l.fn.points.items p d) places;
}

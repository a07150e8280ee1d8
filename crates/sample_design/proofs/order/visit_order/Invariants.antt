use Rattle.std.proofs.Common.{◌≡◌, length, IsPermutation, ◌-◌}
use Rattle.std.specs.List.{range_with_len}
use Rattle.sample_design.specs.Order.{order_of, exchanged}
use Rattle.sample_design.proofs.order.visit_order.Given as goal

abbrev pub invariant-loop-i : goal.invariant-loop-i
invariant-loop-i l = record {
  wide : length l.places.items ≡ l.n;
  rest : exchanged (l.i - 1) l.draws.state l.places.items ≡ order_of l.n l.seed;
  shuffled : IsPermutation (range_with_len 0 l.n) l.places.items;
}

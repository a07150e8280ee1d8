use Rattle.std.proofs.Common.{◌≡◌, ◌≤◌, ◌-◌, length, drop}
use Rattle.rebuild.specs.Pouring.{poured}
use Rattle.rebuild.proofs.merge.pour.Given as goal

abbrev pub invariant-loop-turn : goal.invariant-loop-turn
invariant-loop-turn l = record {
  poured : l.list.items ≡ poured l.ways (drop (length l.entries - l.turn) l.entries) l.initial.list.items;
  cut : length l.list.items ≤ l.ways;
}

use Rattle.std.proofs.Common.{◌≡◌, ◌≤◌, ◌-◌, ◌*◌, length, drop, take}
use Rattle.recency_record.specs.Slots.{by_time}
use Rattle.rebuild.specs.Merge.{united}
use Rattle.rebuild.proofs.merge.merge.Given as goal

abbrev pub invariant-loop-turn : goal.invariant-loop-turn
invariant-loop-turn g l = record {
  merged : l.latest.items
      ≡ take l.ways (by_time (united l.count l.set (l.count * (l.turns - l.turn)) (drop (l.count * (l.turns - l.turn)) (g.S.Source.told l.source).sets)));
  cut : length l.latest.items ≤ l.ways;
}

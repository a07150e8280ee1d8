use Rattle.std.proofs.Common.{◌≡◌, length, take}
use Rattle.recency_record.proofs.lists.RecencyLists.snapshot.Given as goal

abbrev pub invariant-loop-set : goal.invariant-loop-set
invariant-loop-set l = record {
  sets : l.sets ≡ take l.set l.self.sets;
  count : length l.sets ≡ l.set;
}

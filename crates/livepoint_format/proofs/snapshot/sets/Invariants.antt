use Rattle.std.proofs.Common.{◌≡◌, ◌-◌, [], length, sum}
use Rattle.recency_record.specs.Faults.{dealt}
use Rattle.livepoint_format.specs.Reading.{items}
use Rattle.livepoint_format.specs.Decoding.{set_after}
use Rattle.livepoint_format.proofs.snapshot.sets.Given as goal

abbrev pub invariant-loop-number : goal.invariant-loop-number
invariant-loop-number l = record {
  row : length l.set_row ≡ 16;
  long : length l.counts.items ≡ l.number;
  sum : sum l.counts.items ≡ length l.entries.items;
  read : items (set_after l.which l.limit) (l.count - l.number) (dealt l.counts.items l.entries.items) l.cursor
      ≡ items (set_after l.which l.limit) l.count [] l.fn.cursor;
}

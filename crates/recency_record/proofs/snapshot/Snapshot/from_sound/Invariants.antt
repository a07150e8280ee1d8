use Rattle.std.proofs.Common.{◌≡◌, ◌≤◌, ◌+◌, length, take, sum, vec_len, vec_capacity}
use Rattle.recency_record.specs.Parts.{starts_from}
use Rattle.recency_record.proofs.snapshot.Snapshot.from_sound.Given as goal

abbrev pub invariant-loop-count : goal.invariant-loop-count
invariant-loop-count l = record {
  room : length l.counts + 1 ≤ vec_capacity l.starts;
  len : vec_len l.starts ≡ l.count-index + 1;
  start : l.start ≡ sum (take l.count-index l.counts);
  starts : l.starts.items ≡ starts_from 0 (take l.count-index l.counts);
}

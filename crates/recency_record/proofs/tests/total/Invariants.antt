use Rattle.std.proofs.Common.{◌≡◌, ◌≤◌, ◌*◌, take, sum}
use Rattle.recency_record.proofs.tests.total.Given as goal

abbrev pub invariant-loop-count : goal.invariant-loop-count
invariant-loop-count l = record {
  total : l.total ≡ sum (take l.count-index l.counts);
  short : l.total ≤ l.count-index * 255;
}

use Rattle.std.proofs.Common.{◌≡◌, length, drop, sum}
use Rattle.recency_record.specs.Faults.{sets_fault, dealt}
use Rattle.recency_record.proofs.judging.first_fault.Given as goal

abbrev pub invariant-loop-set : goal.invariant-loop-set
invariant-loop-set l = record {
  long : sum (drop l.set l.counts) ≡ length l.rest;
  faults : sets_fault l.geometry l.time 0 (dealt l.counts l.entries)
      ≡ sets_fault l.geometry l.time l.set (dealt (drop l.set l.counts) l.rest);
}

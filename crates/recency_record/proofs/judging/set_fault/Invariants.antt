use Rattle.std.proofs.Common.{◌≡◌, take, drop}
use Rattle.recency_record.specs.Faults.{set_fault, entries_fault}
use Rattle.recency_record.proofs.judging.set_fault.Given as goal

abbrev pub invariant-loop-place : goal.invariant-loop-place
invariant-loop-place l =
    set_fault l.geometry l.time l.set l.entries
    ≡ entries_fault l.geometry l.time l.set (take l.place l.entries) (drop l.place l.entries)

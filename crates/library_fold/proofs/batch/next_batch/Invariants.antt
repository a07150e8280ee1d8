use Rattle.std.proofs.Common.{◌≤◌, ◌-◌, length}
use Rattle.library_fold.specs.Batches.{AreTaken, HasCome}
use Rattle.library_fold.proofs.batch.next_batch.Given as goal

abbrev pub invariant-loop-alloc : goal.invariant-loop-alloc
invariant-loop-alloc g l = record {
  come : HasCome l.fn.intake l.intake (g.S.Source.rest l.fn.source) (g.S.Source.rest l.source) l.batch.items;
  taken : AreTaken l.fn.intake.front l.batch.items;
  few : length l.batch.items ≤ 128;
  later : g.S.Source.faults l.fn.source ≤ g.S.Source.faults l.source;
}

abbrev pub decreases-loop-alloc : goal.decreases-loop-alloc
decreases-loop-alloc g l = 128 - length l.batch.items

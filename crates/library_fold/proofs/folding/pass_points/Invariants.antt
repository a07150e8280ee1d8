use Rattle.std.proofs.Common.{◌≡◌, ◌≤◌, ℕ, List, []}
use Rattle.livepoint_format.specs.Values.{Point}
use Rattle.library_reader.specs.Laws.{IsReadingOf}
use Rattle.library_fold.specs.Batches.{HasCome}
use Rattle.library_fold.proofs.BatchLemmas.{left_of}
use Rattle.library_fold.proofs.folding.pass_points.Given as goal

abbrev pub invariant-loop-batch : goal.invariant-loop-batch
invariant-loop-batch g l = record {
  come : (points : List Point) × HasCome l.fn.intake l.intake (g.S.Source.rest l.fn.source) (g.S.Source.rest l.source) points;
  empty : l.batch.items ≡ [];
  later : g.S.Source.faults l.fn.source ≤ g.S.Source.faults l.source;
}

abbrev pub decreases-loop-batch : goal.decreases-loop-batch
decreases-loop-batch g l = left_of l.intake

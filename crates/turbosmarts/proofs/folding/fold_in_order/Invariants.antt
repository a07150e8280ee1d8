use Rattle.std.proofs.Common.{length}
use Rattle.turbosmarts.specs.Folding.{visited}
use Rattle.turbosmarts.proofs.FoldingLemmas.{IsFolding}
use Rattle.turbosmarts.proofs.folding.fold_in_order.Given as goal

abbrev pub invariant-loop-k : goal.invariant-loop-k
invariant-loop-k l = IsFolding l.test (visited l.cycles l.order) (length l.order) l.k l.front

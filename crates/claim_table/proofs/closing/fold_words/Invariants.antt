use Rattle.std.proofs.Common.{◌≡◌}
use Rattle.ordered_fold.specs.Batch.{fold_from}
use Rattle.claim_table.specs.Board.{list_at}
use Rattle.claim_table.proofs.closing.fold_words.Given as goal

abbrev pub invariant-loop-k : goal.invariant-loop-k
invariant-loop-k g l = l.front ≡ fold_from l.fn.start (list_at g.L.Listed.lists l.which) l.k

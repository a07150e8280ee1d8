use Rattle.std.proofs.Common.{◌≡◌, length}
use Rattle.std.specs.List.{All}
use Rattle.ordered_fold.specs.Batch.{IsHeldAnswer}
use Rattle.workers.proofs.tests.answers_of.Given as goal

abbrev pub invariant-loop-k : goal.invariant-loop-k
invariant-loop-k l = record {
  long : length l.answers.items ≡ l.k;
  held : All IsHeldAnswer l.answers.items;
}

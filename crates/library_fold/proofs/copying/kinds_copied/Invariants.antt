use Rattle.std.proofs.Common.{◌≡◌, take}
use Rattle.library_fold.proofs.copying.kinds_copied.Given as goal

abbrev pub invariant-loop-k : goal.invariant-loop-k
invariant-loop-k l = l.copied ≡ take l.k l.list

use Rattle.std.proofs.Common.{◌≡◌, ◌++◌, drop, replicate}
use Rattle.lru_plain.proofs.lists.free_all.Given as goal

abbrev pub invariant-loop-place : goal.invariant-loop-place
invariant-loop-place g l = record {
  free : l.row ≡ replicate l.place-index l.free ++ drop l.place-index l.fn.row;
}

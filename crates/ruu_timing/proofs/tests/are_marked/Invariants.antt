use Rattle.std.proofs.Common.{ℕ, ◌<◌, get_or}
use Rattle.hierarchy.specs.declared.marked.Marked.{Marked}
use Rattle.hierarchy.specs.Marked.{IsMarked}
use Rattle.ruu_timing.proofs.tests.are_marked.Given as goal

abbrev pub invariant-loop-m : goal.invariant-loop-m
invariant-loop-m l = (k : ℕ) (d : Marked) → k < l.m-index → IsMarked (get_or l.items k d)

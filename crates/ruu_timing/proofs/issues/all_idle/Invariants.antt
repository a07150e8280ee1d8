use Rattle.std.proofs.Common.{◌≡◌, ◌≤◌, replicate, vec_len, vec_capacity}
use Rattle.ruu_timing.specs.Issues.{idle}
use Rattle.ruu_timing.proofs.issues.all_idle.Given as goal

abbrev pub invariant-loop-place : goal.invariant-loop-place
invariant-loop-place l = record {
  room : l.size ≤ vec_capacity l.slots;
  len : vec_len l.slots ≡ l._place;
  idle : l.slots.items ≡ replicate l._place (idle 0);
}

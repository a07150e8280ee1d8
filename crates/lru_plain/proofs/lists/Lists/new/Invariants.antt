use Rattle.std.proofs.Common.{◌≡◌, ◌≤◌, replicate, vec_len, vec_capacity}
use Rattle.lru_plain.proofs.lists.Lists.new.Given as goal

abbrev pub invariant-loop-place : goal.invariant-loop-place
invariant-loop-place g l = record {
  room : l.len ≤ vec_capacity l.row;
  long : vec_len l.row ≡ l._place;
  free : l.row.items ≡ replicate l._place l.free;
}

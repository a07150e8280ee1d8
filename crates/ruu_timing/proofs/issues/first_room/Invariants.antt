use Rattle.std.proofs.Common.{◌≡◌, ◌+◌, ◌-◌, ◌<◌, ◌≤◌, ℕ, false, max}
use Rattle.ruu_timing.specs.Issues.{has_room}
use Rattle.ruu_timing.proofs.issues.first_room.Given as goal

abbrev pub invariant-wait : goal.invariant-wait
invariant-wait l = record {
  start : l.ready ≤ l.t;
  end : l.t ≤ max l.ready (l.last + 1);
  none : (k : ℕ) → l.ready ≤ k → k < l.t → has_room l.w l.slots l.start l.class k ≡ false;
}

abbrev pub decreases-wait : goal.decreases-wait
decreases-wait l = max l.ready (l.last + 1) + 1 - l.t

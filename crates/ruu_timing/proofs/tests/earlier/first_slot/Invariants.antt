use Rattle.std.proofs.Common.{◌≡◌, ◌+◌, ◌-◌, ◌<◌, ◌≤◌, ◌&&◌, ℕ, false, max, nat_le, reverse}
use Rattle.ruu_timing.specs.Timed.{last_of}
use Rattle.ruu_timing.specs.Times.{has_slot}
use Rattle.ruu_timing.proofs.tests.earlier.first_slot.Given as goal

abbrev pub invariant-wait : goal.invariant-wait
invariant-wait l = record {
  start : l.ready ≤ l.t;
  end : l.t ≤ max l.ready (last_of (reverse l.earlier));
  none : (k : ℕ) → k < l.t → (nat_le l.ready k && has_slot l.w (reverse l.earlier) l.class k) ≡ false;
}

abbrev pub decreases-wait : goal.decreases-wait
decreases-wait l = max l.ready (last_of (reverse l.earlier)) + 1 - l.t

use Rattle.std.proofs.Common.{◌≡◌, ◌-◌, ◌≤◌, true}
use Rattle.smarts_base.specs.Least.{NonePasses}
use Rattle.confidence.specs.Confidence.{is_within}
use Rattle.confidence.proofs.verdict.least_error.Given as goal

-- the least error that passes is from low to high
abbrev pub invariant-loop-low : goal.invariant-loop-low
invariant-loop-low l = record {
  order : l.low ≤ l.high;
  most : l.high ≤ 9999;
  passes : is_within l.sums l.z l.high ≡ true;
  fails : NonePasses l.low (is_within l.sums l.z);
}

abbrev pub decreases-loop-low : goal.decreases-loop-low
decreases-loop-low l = l.high - l.low

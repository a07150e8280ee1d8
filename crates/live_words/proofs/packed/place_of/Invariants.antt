use Rattle.std.proofs.Common.{◌<◌, ◌≤◌, ◌-◌, ℕ, length}
use Rattle.live_words.proofs.PackedLemmas.{addr_in}
use Rattle.live_words.proofs.packed.place_of.Given as goal

-- the addresses before are lower, and those behind are higher
abbrev pub invariant-loop-low : goal.invariant-loop-low
invariant-loop-low l = record {
  within : l.high ≤ length l.packed;
  below : (i : ℕ) → i < l.low → addr_in l.packed i < l.addr;
  above : (i : ℕ) → l.high ≤ i → i < length l.packed → l.addr < addr_in l.packed i;
}

abbrev pub decreases-loop-low : goal.decreases-loop-low
decreases-loop-low l = l.high - l.low

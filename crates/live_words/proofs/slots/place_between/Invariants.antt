use Rattle.std.proofs.Common.{◌<◌, ◌≤◌, ℕ}
use Rattle.live_words.specs.Slots.{IsOther}
use Rattle.live_words.proofs.slots.place_between.Given as goal

-- the slots before are taken by others
abbrev pub invariant-loop-place : goal.invariant-loop-place
invariant-loop-place l = record {
  others : (other : ℕ) → l.from ≤ other → other < l.place → IsOther l.slots l.addr other;
}

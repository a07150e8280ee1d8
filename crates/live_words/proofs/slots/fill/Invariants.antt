use Rattle.std.proofs.Common.{◌≡◌, ◌+◌, ◌≤◌, length, drop}
use Rattle.live_words.specs.Slots.{taken, slotted_words, AreSlots}
use Rattle.live_words.specs.Words.{memory_of}
use Rattle.live_words.proofs.slots.fill.Given as goal

-- the slots hold the pairs behind
abbrev pub invariant-loop-index : goal.invariant-loop-index
invariant-loop-index l = record {
  slots : AreSlots l.slots;
  long : length l.slots ≡ length l.initial.slots;
  room : length (taken l.slots) + l.index ≤ length l.pairs;
  words : slotted_words l.slots ≡ memory_of (drop l.index l.pairs);
}

abbrev pub decreases-loop-index : goal.decreases-loop-index
decreases-loop-index l = l.index

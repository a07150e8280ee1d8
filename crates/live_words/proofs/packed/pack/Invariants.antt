use Rattle.std.proofs.Common.{◌≡◌, length, map, take}
use Rattle.live_words.specs.Packed.{packed_pair}
use Rattle.live_words.proofs.packed.pack.Given as goal

abbrev pub invariant-loop-index : goal.invariant-loop-index
invariant-loop-index l = record {
  long : length l.packed ≡ length l.pairs;
  front : take l.index l.packed ≡ map packed_pair (take l.index l.pairs);
}

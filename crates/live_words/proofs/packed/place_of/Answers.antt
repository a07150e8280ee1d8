use Rattle.std.proofs.Common.{◌+◌, ◌-◌, ◌/◌, arith}
use Rattle.live_words.proofs.PackedLemmas.{up_to, from_on}
use Rattle.live_words.proofs.packed.place_of.Goals as goal

pub loop-low-preserved-then-here-from-2 : goal.loop-low-preserved-then-here-from-2
loop-low-preserved-then-here-from-2 c = record {
  within = c.loop-low.invariant.within;
  below = λ i h.
      up_to c.args.packed.now i (c.loop-low.low + (c.loop-low.high - c.loop-low.low) / 2) c.args.addr c.requires
      (omega (arith, c.loop-low-test.true, c.loop-low.invariant.within)) (omega arith)
      (omega (arith, c.if-here-from-2.true, c.from-in-loop-low.ensures));
  above = c.loop-low.invariant.above;
}

pub loop-low-preserved : goal.loop-low-preserved
loop-low-preserved c = record {
  within = omega (arith, c.loop-low-test.true, c.loop-low.invariant.within);
  below = c.loop-low.invariant.below;
  above = λ i h within.
      from_on c.args.packed.now i (c.loop-low.low + (c.loop-low.high - c.loop-low.low) / 2) c.args.addr c.requires
      h within
      (omega (arith, c.if-here-from.false, c.from.ensures, c.if-here-from-2.false, c.from-in-loop-low.ensures));
}

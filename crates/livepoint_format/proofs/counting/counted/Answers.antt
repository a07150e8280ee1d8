use Rattle.std.proofs.Common.{arith, take, sym}
use Rattle.std.proofs.lemmas.List.{take_more, take_all}
use Rattle.std.proofs.lemmas.List.Elements.{All-push}
use Rattle.live_points.specs.declared.point.LivePoint.{LivePoint}
use Rattle.live_words.specs.Words.{AreWords}
use Rattle.livepoint_format.proofs.CountingLemmas.{counted_point}
use Rattle.livepoint_format.proofs.counting.counted.Goals as goal

pub loop-i-preserved : goal.loop-i-preserved
loop-i-preserved c = record {
  told =
      counted_point c.args.points.now c.loop-i.i c.index-points-i.result c.loop-i.tally.entries c.count_words.new.tally.entries
      c.loop-i-test.true (sym c.index-points-i.is)
      c.loop-i.invariant.told (rw (c.as_slice.ensures.value, sym c.index-points-i.is) at c.in_ok-count_words.ensures);
  words =
      rw (
        take_more c.args.points.now c.loop-i.i c.index-points-i.result c.loop-i-test.true,
        sym c.index-points-i.is,
      )
      (All-push (λ (point : LivePoint). AreWords point.words) (take c.loop-i.i c.args.points.now) c.index-points-i.result
      c.loop-i.invariant.words (rw (sym c.index-points-i.is) at c.as_slice.ensures.words));
}

pub returns-clause-words : goal.returns-clause-words
returns-clause-words c =
    rw (take_all c.loop-i.i c.args.points.now (omega (arith, c.loop-i-test.false))) at c.loop-i.invariant.words

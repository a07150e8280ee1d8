use Rattle.livepoint_format.proofs.CountingLemmas.{counted_word}
use Rattle.livepoint_format.proofs.counting.count_words.Goals as goal

pub loop-i-preserved : goal.loop-i-preserved
loop-i-preserved c = λ held told.
    counted_word held c.args.words.now c.loop-i.i c.loop-i.tally.entries c.count.new.tally.entries c.requires c.loop-i-test.true
    (c.loop-i.invariant held told) c.in_ok-count.ensures

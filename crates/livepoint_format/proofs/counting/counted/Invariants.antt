use Rattle.std.proofs.Common.{take}
use Rattle.std.specs.List.{All}
use Rattle.live_words.specs.Words.{AreWords}
use Rattle.live_points.specs.Sharing.{holders}
use Rattle.livepoint_format.specs.Told.{AreTold}
use Rattle.livepoint_format.proofs.counting.counted.Given as goal

abbrev pub invariant-loop-i : goal.invariant-loop-i
invariant-loop-i l = record {
  told : AreTold (holders (take l.i l.points)) l.tally.entries;
  words : All (λ point. AreWords point.words) (take l.i l.points);
}

use Rattle.livepoint_format.proofs.PairsLemmas.{AreRanked}
use Rattle.livepoint_format.proofs.shared.first_unranked.Given as goal

abbrev pub invariant-loop-index : goal.invariant-loop-index
invariant-loop-index l = AreRanked l.pairs l.index

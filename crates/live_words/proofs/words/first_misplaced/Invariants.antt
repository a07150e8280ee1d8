use Rattle.live_words.proofs.WordsLemmas.{AreRisen}
use Rattle.live_words.proofs.words.first_misplaced.Given as goal

abbrev pub invariant-loop-index : goal.invariant-loop-index
invariant-loop-index l = AreRisen l.pairs l.index l.least

use Rattle.std.proofs.Common.{arith}
use Rattle.live_words.proofs.WordsLemmas.{few_words}
use Rattle.live_words.proofs.words.Words.len.Goals as goal

pub returns-clause-few : goal.returns-clause-few
returns-clause-few c = omega (arith, few_words c.self.inside.pairs.items c.self.invariant, c.len.ensures)

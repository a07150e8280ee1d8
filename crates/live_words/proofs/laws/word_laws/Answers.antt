use Rattle.live_words.proofs.LiveWordsLemmas as lemmas
use Rattle.live_words.proofs.PackedLemmas.{packed_are_held}
use Rattle.live_words.proofs.laws.word_laws.Goals as goal

pub returns-clause-suffice : goal.returns-clause-suffice
returns-clause-suffice c = lemmas.live_words_suffice

pub returns-clause-packed : goal.returns-clause-packed
returns-clause-packed c = packed_are_held

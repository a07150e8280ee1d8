use Rattle.livepoint_format.proofs.Parts.{words_again, parts_again, words_are}
use Rattle.livepoint_format.proofs.laws.word_laws.Goals as goal

pub returns : goal.returns
returns c = record {
  words = λ shared ws ranked words. words_again shared ranked ws words;
  parts = λ most shared p ranked are. parts_again shared ranked most p are;
  found = λ most shared p ranked are apart. words_are shared ranked most p are apart;
}

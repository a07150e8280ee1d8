use Rattle.std.proofs.Common.{◌≡◌, ◌++◌, take}
use Rattle.image_maker.specs.Image as meaning
use Rattle.image_maker.proofs.image.write_words.Given as goal

abbrev pub invariant-loop-word : goal.invariant-loop-word
invariant-loop-word l = l.file.items ≡ l.fn.file.items ++ meaning.words (take l.word-index l.words)

use Rattle.std.proofs.lemmas.List.{take_more}
use Rattle.image_maker.proofs.Pieces.{words_none, words_more}
use Rattle.image_maker.proofs.image.write_words.Goals as goal

pub loop-word-init : goal.loop-word-init
loop-word-init c = words_none c.args.file.now.items

pub loop-word-preserved : goal.loop-word-preserved
loop-word-preserved c =
    rw (
      c.in_ok-extend_from_slice.ensures.items,
      c.to_le_bytes.ensures,
      c.loop-word.invariant,
      take_more c.args.words.now c.loop-word.word-index 0 c.loop-word-test.true,
    )
    (words_more c.args.file.now.items _ _)

use Rattle.std.proofs.Common.{◌≡◌, ◌++◌, map, take}
use Rattle.rv_isa.specs.Encoding.{word_of}
use Rattle.image_maker.specs.Image as meaning
use Rattle.image_maker.proofs.image.write_program.Given as goal

abbrev pub invariant-loop-inst : goal.invariant-loop-inst
invariant-loop-inst l =
    l.file.items ≡ l.fn.file.items ++ meaning.words (map word_of (take l.inst-index l.program))

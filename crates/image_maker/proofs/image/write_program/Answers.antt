use Rattle.std.specs.Prelude.{pos}
use Rattle.std.proofs.lemmas.List.{map_more}
use Rattle.rv_isa.specs.declared.inst.Inst.TheVariants.{Lui}
use Rattle.rv_isa.specs.Encoding.{word_of}
use Rattle.image_maker.proofs.Pieces.{words_none, words_more}
use Rattle.image_maker.proofs.image.write_program.Goals as goal

pub loop-inst-init : goal.loop-inst-init
loop-inst-init c = words_none c.args.file.now.items

pub loop-inst-preserved : goal.loop-inst-preserved
loop-inst-preserved c =
    rw (
      c.in_ok-extend_from_slice.ensures.items,
      c.to_le_bytes.ensures,
      c.encode.ensures.value,
      c.loop-inst.invariant,
      map_more word_of c.args.program.now c.loop-inst.inst-index (Lui 0 (pos 0)) c.loop-inst-test.true,
    )
    (words_more c.args.file.now.items _ _)

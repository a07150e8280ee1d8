use Rattle.image_maker.specs.Image.{image_file, file_header, words}
use Rattle.image_maker.proofs.Pieces.{length_file}
use Rattle.image_maker.proofs.image.make_image.Goals as goal

pub returns-clause-bytes : goal.returns-clause-bytes
unfolding image_file file_header words
returns-clause-bytes c =
    rw (
      c.in_ok-write_program.ensures,
      c.in_ok-write_words.ensures,
      c.in_ok-extend_from_slice.ensures.items,
      c.in_ok-file.ensures.items,
      c.deref.ensures.value,
      c.in_ok-program.ensures.value,
    )

pub returns-clause-len : goal.returns-clause-len
returns-clause-len c = rw (returns-clause-bytes c) (length_file c.args.size c.args.seed)

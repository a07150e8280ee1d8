use Rattle.turbosmarts.proofs.LibraryLemmas.{warmed_is}
use Rattle.turbosmarts.proofs.commands.warm.answer.Goals as goal

pub returns : goal.returns
returns c = rw (warmed_is _ _ _ _ _ c.in_ok-image.ensures c.in-Ok.ensures) c.write_library.ensures

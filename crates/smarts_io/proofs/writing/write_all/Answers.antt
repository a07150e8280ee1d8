use Rattle.std.proofs.Common.{arith}
use Rattle.std.proofs.lemmas.List.{length-take, length-drop}
use Rattle.smarts_io.proofs.Pieces.{takes_next}
use Rattle.smarts_io.proofs.writing.write_all.Goals as goal

pub loop-done-preserved : goal.loop-done-preserved
loop-done-preserved g c =
    let wrote = c.in-Ok.ensures.bytes in
    let within = simp (length-take, length-drop) at wrote.1 in
    record {
      within = omega arith;
      bytes = takes_next _ _ _ _ _ _ c.loop-done.invariant.bytes wrote.2;
      later = omega (arith, c.in-Ok.ensures.cause.later);
    }

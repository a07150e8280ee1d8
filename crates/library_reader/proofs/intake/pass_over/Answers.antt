use Rattle.std.proofs.Common.{rules, ◌++◌, take, arith, length-append}
use Rattle.std.proofs.lemmas.List.{length-take-le}
use Rattle.smarts_io.proofs.Pieces.{gives_more}
use Rattle.library_reader.proofs.intake.pass_over.Goals as goal

pub loop-came-preserved : goal.loop-came-preserved
loop-came-preserved g c =
    let was = c.loop-came.invariant.given in
    let read = c.in-Ok.ensures.bytes in
    let piece = take c.in-Ok.count c.read.new.buf in
    record {
      given = (was.0 ++ piece, gives_more _ _ _ _ _ was.1 read.1, omega (arith, was.2, length-append was.0 piece, length-take-le c.in-Ok.count c.read.new.buf read.0));
      most = search rules;
      room = search rules;
      later = search rules;
    }

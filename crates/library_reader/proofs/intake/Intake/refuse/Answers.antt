use Rattle.std.proofs.Common.{ap, arith}
use Rattle.library_reader.specs.Reader.{came_in}
use Rattle.library_reader.proofs.IntakeLemmas.{refused_all, too_many}
use Rattle.library_reader.proofs.intake.Intake.refuse.Goals as goal

pub returns-then-length-gt-LIMIT-clause-handed : goal.returns-then-length-gt-LIMIT-clause-handed
returns-then-length-gt-LIMIT-clause-handed g c =
    let given = c.in_ok-length.ensures.given in
    too_many c.args.self.now c.args.self.now _ _ given.0 c.in_ok-length.length given.1
    (omega (arith, given.2, c.self.invariant.count, ap came_in c.self.view_is))
    (omega (arith, c.in_ok-length.ensures.most))

pub returns-clause-handed : goal.returns-clause-handed
returns-clause-handed g c =
    let given = c.in_ok-length.ensures.given in
    refused_all c.args.self.now c.args.self.now _ _ given.0 c.in_ok-length.length c.args.fault c.requires given.1
    (omega (arith, given.2, c.self.invariant.count, ap came_in c.self.view_is)) (omega arith)
    (c.in_ok-length.ensures.end (omega arith))

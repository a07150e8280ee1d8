use Rattle.std.proofs.Common.{[]}
use Rattle.library_reader.proofs.ReadingLemmas.{starts_is}
use Rattle.library_fold.proofs.tests.points_passed.Goals as goal

pub pass_points-requires-clause-read : goal.pass_points-requires-clause-read
pass_points-requires-clause-read c =
    let started = c.in_ok-header.ensures.started in
    (started.1, started.2.read.on [] [] starts_is)

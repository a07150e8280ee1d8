use Rattle.std.proofs.Common.{arith, ◌++◌}
use Rattle.smarts_io.proofs.Pieces.{gives_more, gives_appended, gives_all, gives_cut}
use Rattle.smarts_io.proofs.reading.read_all.Goals as goal

pub returns-in_err-count-clause-front : goal.returns-in_err-count-clause-front
returns-in_err-count-clause-front g c =
    let given = c.read_piece.ensures.given in
    (c.loop-out.out.items ++ given.0, gives_more _ _ _ _ _ c.loop-out.invariant.given given.1)

pub returns-then-count-eq0-clause-bytes : goal.returns-then-count-eq0-clause-bytes
returns-then-count-eq0-clause-bytes g c =
    let read = c.in_ok-count.ensures in
    gives_all _ _ _ _
    (gives_appended _ _ _ _ _ c.loop-out.invariant.given read.given)
    (read.end c.if-count-eq0.true)
    (omega arith)

pub returns-clause-bytes : goal.returns-clause-bytes
returns-clause-bytes g c = gives_cut _ _ _ _ c.loop-out.invariant.given (omega arith)

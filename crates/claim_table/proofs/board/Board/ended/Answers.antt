use Rattle.std.proofs.Common.{rules, arith}
use Rattle.claim_table.proofs.StepLemmas.{looks}
use Rattle.claim_table.proofs.board.Board.ended.Goals as goal

pub load-word-requires : goal.load-word-requires
load-word-requires g c =
    (search rules, search rules, looks g.L.Listed.lists _ _ _ c.pass.inside.seat.me c.pass.invariant.live c.pass.invariant.free)

pub overflow_cast-count : goal.overflow_cast-count
overflow_cast-count g c = omega (arith, c.load-word.ensures.2.most)

use Rattle.std.proofs.Common.{length, refl, arith, ap, ◌∙◌}
use Rattle.std.proofs.lemmas.List.{length-map}
use Rattle.workers.proofs.WorkerLemmas.{own_batch, folded_none, alone_number}
use Rattle.workers.proofs.worker.work.Goals as goal

pub loop-answered-init : goal.loop-answered-init
loop-answered-init g c = record {
  own = c.requires.own;
  table = refl;
  id = refl;
  share = record { hand = c.requires.hand; spare = refl; merged = refl };
  simulator = refl;
  points = omega arith;
  drawn = omega arith;
  few = omega arith;
  alone = λ new alone. folded_none g.L.Listed.lists c.args.pass.now.view
      (own_batch g.L.Listed.lists c.args.board.now c.args.pass.now c.requires.own c.size-size.ensures.batch) new;
}

pub returns-clause-alone : goal.returns-clause-alone
returns-clause-alone g c = λ new alone.
    let folded = c.loop-answered.invariant.alone new alone in
    let same = c.loop-answered.invariant.share in
    alone_number g.L.Listed.lists c.args.board.now c.loop-answered.pass c.loop-answered.answered (length c.args.points.now)
    c.loop-answered.invariant.own c.size-size.ensures.batch (ap length c.requires.list ∙ length-map c.args.points.now _) folded
    (c.loop-answered-test.ensures.turned.alone (omega (arith, same.spare, same.merged, alone)) c.loop-answered.answered folded)

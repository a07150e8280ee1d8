use Rattle.std.proofs.Common.{◌≡◌, ◌++◌, rules}
use Rattle.library_fold.proofs.BatchLemmas.{come_behind, ended_behind, err_on, front_there, left_behind, reading_on, stopped_behind}
use Rattle.library_fold.specs.Stops.{IsStopped}
use Rattle.library_fold.proofs.folding.pass_points.Goals as goal

pub returns-in_err-next_batch-clause-fault : goal.returns-in_err-next_batch-clause-fault
returns-in_err-next_batch-clause-fault g c =
    let come = c.loop-batch.invariant.come in
    let stop = c.in_err-next_batch.field-0.0 in
    err_on (λ stop. IsStopped stop c.args.intake.now (g.S.Source.rest c.args.source.now) (g.S.Source.rest c.next_batch.new.source))
    c.from_residual.result stop c.from_residual.ensures.1
    (stopped_behind stop c.args.intake.now c.loop-batch.intake _ _ _ come.0 come.1 c.in_err-next_batch.ensures.fault)

pub returns-then-branch-clause-ended : goal.returns-then-branch-clause-ended
returns-then-branch-clause-ended g c =
    let come = c.loop-batch.invariant.come in
    let read = rw c.if-branch.true at c.in_ok-next_batch.ensures.read in
    (come.0 ++ c.next_batch.new.batch.items, ended_behind c.args.intake.now c.loop-batch.intake _ _ _ come.0 c.next_batch.new.batch.items come.1 read)

pub loop-batch-smaller : goal.loop-batch-smaller
loop-batch-smaller g c =
    let come = c.loop-batch.invariant.come in
    let read = rw c.if-branch.false at c.in_ok-next_batch.ensures.read in
    let on = reading_on c.args.intake.now c.loop-batch.intake _ _ come.0 come.1 c.requires.read in
    left_behind c.loop-batch.intake c.next_batch.new.intake _ _ on.0 come.0 c.next_batch.new.batch.items on.1
    (front_there c.args.intake.now.front c.loop-batch.intake.front come.1.1.front c.requires.front)
    read.0 c.in_ok-next_batch.ensures.room read.1

pub loop-batch-preserved : goal.loop-batch-preserved
loop-batch-preserved g c =
    let come = c.loop-batch.invariant.come in
    let read = rw c.if-branch.false at c.in_ok-next_batch.ensures.read in
    record {
      come = (come.0 ++ c.next_batch.new.batch.items, come_behind c.args.intake.now c.loop-batch.intake c.next_batch.new.intake _ _ _ come.0 c.next_batch.new.batch.items come.1 read.0);
      empty = search rules;
      later = search rules;
    }

use Rattle.std.proofs.Common.{◌≡◌, ◌++◌, [], rules, arith, subst, Option, length-append}
use Rattle.library_fold.proofs.BatchLemmas.{come_behind, come_none, ended_behind, err_on, front_there, left_behind, reading_on, stopped_behind}
use Rattle.library_fold.proofs.FoldLemmas.{IsFolding, few_in, folding_behind, folding_none}
use Rattle.library_fold.proofs.TakenLemmas.{front_of_desks, points_taken}
use Rattle.library_fold.specs.Batches.{AreTaken}
use Rattle.library_fold.specs.Stops.{IsStopped}
use Rattle.library_reader.specs.Reader.{Front}
use Rattle.library_fold.proofs.folding.fold_points.Goals as goal

pub loop-batch-init : goal.loop-batch-init
loop-batch-init g c = record {
  come = ([], come_none c.args.intake.now _, folding_none c.args.crew.now.front c.args.crew.now.simulators.items);
  empty = search rules;
  crew = c.requires.crew;
  later = search rules;
}

pub returns-in_err-over-clause-fault : goal.returns-in_err-over-clause-fault
returns-in_err-over-clause-fault g c =
    let come = c.loop-batch.invariant.come in
    let stop = c.in_err-over.field-0.0 in
    err_on (λ stop. IsStopped stop c.args.intake.now (g.S.Source.rest c.args.source.now) (g.S.Source.rest c.next_batch.new.source))
    c.from_residual.result stop c.from_residual.ensures.1
    (stopped_behind stop c.args.intake.now c.loop-batch.intake _ _ _ come.0 come.1 c.in_err-over.ensures.fault)

pub fold_batch-requires-clause-room : goal.fold_batch-requires-clause-room
fold_batch-requires-clause-room g c = λ κs within going.
    let come = c.loop-batch.invariant.come in
    let desks = c.requires.desks in
    let batch = c.next_batch.new.batch.items in
    let on = reading_on c.args.intake.now c.loop-batch.intake _ _ come.0 come.1 c.requires.read in
    let few = few_in desks.0 c.args.intake.now.front c.loop-batch.intake.front _ desks.2 come.1.1.front
    (c.in_ok-over.ensures.room on.0 come.0 on.1) in
    rw c.deref.ensures.value
    (omega (arith, few, length-append come.0 batch, come.2.going going, come.2.total, c.requires.start.1, desks.3))

pub fold_batch-requires-clause-takes : goal.fold_batch-requires-clause-takes
fold_batch-requires-clause-takes g c = λ κs within.
    let come = c.loop-batch.invariant.come in
    let desks = c.requires.desks in
    let taken : AreTaken c.args.intake.now.front c.next_batch.new.batch.items =
    subst (λ (front : Option Front). AreTaken front c.next_batch.new.batch.items) come.1.1.front c.in_ok-over.ensures.taken in (
      desks.0,
      come.2.alike desks.0 desks.1,
      desks.2.served,
      rw c.deref.ensures.value (points_taken desks.0 c.args.intake.now.front c.next_batch.new.batch.items desks.2 taken),
    )

pub returns-then-over-clause-folded : goal.returns-then-over-clause-folded
returns-then-over-clause-folded g c = λ setup alike.
    let come = c.loop-batch.invariant.come in
    let batch = c.next_batch.new.batch.items in
    let read = rw c.if-over.true at c.in_ok-over.ensures.read in
    let more : IsFolding c.loop-batch.crew.front c.fold_batch.new.crew.front c.loop-batch.crew.simulators.items c.fold_batch.new.crew.simulators.items batch = record {
      folded = rw c.deref.ensures.value at c.in_ok-fold_batch.ensures.folded;
      going = λ still. (rw c.deref.ensures.value at (c.in_ok-fold_batch.ensures.going still)).1;
      total = c.in_ok-fold_batch.ensures.total;
      alike = c.in_ok-fold_batch.ensures.alike;
    } in
    let all = folding_behind _ _ _ _ _ _ come.0 batch come.2 more (λ still. (c.in_ok-fold_batch.ensures.going still).0) in
    (come.0 ++ batch, ended_behind c.args.intake.now c.loop-batch.intake _ _ _ come.0 batch come.1 read, all.folded setup alike)

pub loop-batch-smaller : goal.loop-batch-smaller
loop-batch-smaller g c =
    let come = c.loop-batch.invariant.come in
    let read = rw c.if-over.false at c.in_ok-over.ensures.read in
    let on = reading_on c.args.intake.now c.loop-batch.intake _ _ come.0 come.1 c.requires.read in
    left_behind c.loop-batch.intake c.next_batch.new.intake _ _ on.0 come.0 c.next_batch.new.batch.items on.1
    (front_there c.args.intake.now.front c.loop-batch.intake.front come.1.1.front (front_of_desks c.requires.desks.0 c.args.intake.now.front c.requires.desks.2))
    read.0 c.in_ok-over.ensures.room read.1

pub loop-batch-preserved : goal.loop-batch-preserved
loop-batch-preserved g c =
    let come = c.loop-batch.invariant.come in
    let batch = c.next_batch.new.batch.items in
    let read = rw c.if-over.false at c.in_ok-over.ensures.read in
    let more : IsFolding c.loop-batch.crew.front c.fold_batch.new.crew.front c.loop-batch.crew.simulators.items c.fold_batch.new.crew.simulators.items batch = record {
      folded = rw c.deref.ensures.value at c.in_ok-fold_batch.ensures.folded;
      going = λ still. (rw c.deref.ensures.value at (c.in_ok-fold_batch.ensures.going still)).1;
      total = c.in_ok-fold_batch.ensures.total;
      alike = c.in_ok-fold_batch.ensures.alike;
    } in
    record {
      come = (
        come.0 ++ batch,
        come_behind c.args.intake.now c.loop-batch.intake c.next_batch.new.intake _ _ _ come.0 batch come.1 read.0,
        folding_behind _ _ _ _ _ _ come.0 batch come.2 more (λ still. (c.in_ok-fold_batch.ensures.going still).0),
      );
      empty = search rules;
      crew = search rules;
      later = search rules;
    }

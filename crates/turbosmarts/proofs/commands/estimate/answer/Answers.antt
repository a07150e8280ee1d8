use Rattle.std.proofs.Common.{ap}
use Rattle.ordered_fold.specs.declared.front.Front.{Front}
use Rattle.window_sim.specs.Desk.{Setup}
use Rattle.turbosmarts.proofs.EstimateLemmas.{estimate_is, first_stop, front_begins, later_stop, reading_of, served_beyond, served_refusal, served_report, served_stop}
use Rattle.turbosmarts.proofs.commands.estimate.answer.Goals as goal

pub returns-in_err-header-clause-served : goal.returns-in_err-header-clause-served
returns-in_err-header-clause-served g c =
    let stop = c.in_err-header.field-0.0 in
    served_stop c.args.asked.now c.args.test.now c.from_residual-in_err-header.result stop _ _
    c.from_residual-in_err-header.ensures.1
    (first_stop stop c.in_ok-intake.intake _ _ c.in_ok-intake.ensures c.in_err-header.ensures.fault)

pub pass_points-requires-clause-read : goal.pass_points-requires-clause-read
pass_points-requires-clause-read g c =
    reading_of c.in_ok-header.header c.read_header.new.intake _ _ c.in_ok-header.ensures.started

pub returns-in_err-pass_points-clause-served : goal.returns-in_err-pass_points-clause-served
returns-in_err-pass_points-clause-served g c =
    let stop = c.in_err-pass_points.field-0.0 in
    served_stop c.args.asked.now c.args.test.now c.from_residual-in_err-pass_points.result stop _ _
    c.from_residual-in_err-pass_points.ensures.1
    (later_stop stop c.in_ok-header.header c.read_header.new.intake _ _ _ c.in_ok-header.ensures.started c.in_err-pass_points.ensures.fault)

pub returns-in-Some-clause-served : goal.returns-in-Some-clause-served
returns-in-Some-clause-served g c =
    served_beyond c.args.asked.now c.args.test.now c.in_ok-header.header c.config-config.result c.in-Some.structure c.read_header.new.intake _ _ _
    c.in_ok-header.ensures.started c.in_ok-pass_points.ensures.ended c.config-config.ensures.value c.in-Some.ensures

pub fold_points-requires-clause-read : goal.fold_points-requires-clause-read
fold_points-requires-clause-read g c = λ κs within.
    reading_of c.in_ok-header.header c.read_header.new.intake _ _ c.in_ok-header.ensures.started

pub fold_points-requires-clause-start : goal.fold_points-requires-clause-start
fold_points-requires-clause-start g c = λ κs within.
    front_begins c.in_ok-header.header.points c.args.test.now c.in_ok-crew.crew.front c.in_ok-crew.ensures.front

pub fold_points-requires-clause-desks : goal.fold_points-requires-clause-desks
fold_points-requires-clause-desks g c = λ κs within.
    let started = c.in_ok-header.ensures.started in (
      record { header = c.in_ok-header.header; config = c.config-config.result },
      c.in_ok-crew.ensures.alike,
      record {
        served = record {
          design = c.in_ok-header.ensures.foldable.design;
          config_is = c.config-config.ensures.config;
          within = c.in_default.ensures;
        };
        of = started.0;
        front_is = started.2.front_is;
        head = started.2.head;
      },
      ap (λ (f : Front). f.total) c.in_ok-crew.ensures.front,
    )

pub returns-in_err-fold_points-clause-served : goal.returns-in_err-fold_points-clause-served
returns-in_err-fold_points-clause-served g c =
    let stop = c.in_err-fold_points.field-0.0 in
    served_stop c.args.asked.now c.args.test.now c.from_residual-in_err-fold_points.result stop _ _
    c.from_residual-in_err-fold_points.ensures.1
    (later_stop stop c.in_ok-header.header c.read_header.new.intake _ _ _ c.in_ok-header.ensures.started c.in_err-fold_points.ensures.fault)

pub report-requires-clause-ended : goal.report-requires-clause-ended
report-requires-clause-ended g c =
    let setup : Setup = record { header = c.in_ok-header.header; config = c.config-config.result } in
    let is = estimate_is c.args.asked.now c.args.test.now c.in_ok-header.header c.config-config.result c.read_header.new.intake _ _ _
    c.in_ok-crew.crew.front c.fold_points.new.crew.front c.in_ok-header.ensures.started c.in_ok-header.ensures.foldable.points.0
    c.in_ok-crew.ensures.front (c.in_ok-fold_points.ensures.folded setup c.in_ok-crew.ensures.alike) c.config-config.ensures.value c.in_default.ensures in
    rw c.front.ensures (is.over, is.some)

pub returns-in_err-report-clause-served : goal.returns-in_err-report-clause-served
returns-in_err-report-clause-served g c =
    let setup : Setup = record { header = c.in_ok-header.header; config = c.config-config.result } in
    let is = estimate_is c.args.asked.now c.args.test.now c.in_ok-header.header c.config-config.result c.read_header.new.intake _ _ _
    c.in_ok-crew.crew.front c.fold_points.new.crew.front c.in_ok-header.ensures.started c.in_ok-header.ensures.foldable.points.0
    c.in_ok-crew.ensures.front (c.in_ok-fold_points.ensures.folded setup c.in_ok-crew.ensures.alike) c.config-config.ensures.value c.in_default.ensures in
    served_refusal c.args.asked.now c.args.test.now c.in_ok-header.header _ _ c.fold_points.new.crew.front
    c.from_residual-in_err-report.result c.in_err-report.field-0.0 c.from_residual-in_err-report.ensures.1 is
    (rw c.front.ensures at c.in_err-report.ensures)

pub returns-clause-served : goal.returns-clause-served
returns-clause-served g c =
    let setup : Setup = record { header = c.in_ok-header.header; config = c.config-config.result } in
    let is = estimate_is c.args.asked.now c.args.test.now c.in_ok-header.header c.config-config.result c.read_header.new.intake _ _ _
    c.in_ok-crew.crew.front c.fold_points.new.crew.front c.in_ok-header.ensures.started c.in_ok-header.ensures.foldable.points.0
    c.in_ok-crew.ensures.front (c.in_ok-fold_points.ensures.folded setup c.in_ok-crew.ensures.alike) c.config-config.ensures.value c.in_default.ensures in
    served_report c.args.asked.now c.args.test.now c.in_ok-header.header _ _ c.fold_points.new.crew.front c.in_ok-report.field-0 is
    (rw c.front.ensures at c.in_ok-report.ensures)

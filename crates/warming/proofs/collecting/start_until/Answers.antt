use Rattle.std.proofs.Common.{◌≡◌, ◌<◌, ◌+◌, ◌^◌, ◌∙◌, ◌++◌, ◌∷◌, [], ℕ, List, length, sym, ap, subst, arith}
use Rattle.std.proofs.lemmas.List.{length_push}
use Rattle.live_points.specs.declared.point.LivePoint.{LivePoint}
use Rattle.sample_design.specs.declared.units.Window.{Window}
use Rattle.sample_design.specs.Units.{sampled_unit, window_of}
use Rattle.warming.specs.declared.pass.Pass.{Pass}
use Rattle.warming.specs.Collecting.{IsCollecting, begin_of}
use Rattle.warming.proofs.CollectingLemmas.{can_run, collecting_on, collecting_start, images_of, small_unit}
use Rattle.warming.proofs.collecting.start_until.Goals as goal

pub unit_at-unit-requires-clause-fits : goal.unit_at-unit-requires-clause-fits
unit_at-unit-requires-clause-fits c =
    small_unit c.requires.way.start c.args.header.now c.loop-p.p c.requires.way.can (omega arith)

pub run_to-requires-clause-run : goal.run_to-requires-clause-run
run_to-requires-clause-run c =
    can_run c.requires.way.start c.args.header.now c.loop-p.pass c.loop-p.points.items c.window-window.result.start c.requires.way.can
    (c.loop-p.invariant.way c.requires.way.start c.requires.way.can c.requires.way.way)
    (omega (arith, c.if-window-end.false, c.requires.end))

pub start-requires-clause-least : goal.start-requires-clause-least
start-requires-clause-least c =
    let w = c.requires.way in
    let passing = c.in_ok-run_to.ensures.passing _ _ _ (c.loop-p.invariant.way w.start w.can w.way).passing in
    omega (arith, images_of _ _ _ _ passing, w.can.kinds.least)

pub start-requires-clause-most : goal.start-requires-clause-most
start-requires-clause-most c =
    let w = c.requires.way in
    let passing = c.in_ok-run_to.ensures.passing _ _ _ (c.loop-p.invariant.way w.start w.can w.way).passing in
    omega (arith, images_of _ _ _ _ passing, w.can.kinds.most)

pub loop-p-preserved : goal.loop-p-preserved
loop-p-preserved c =
    let ran : Pass = c.run_to.new.self in
    let old : List LivePoint = c.loop-p.points.items in
    let unit_is = c.unit_at-unit.ensures in
    let begins : c.window-window.result.start ≡ begin_of c.args.header.now.design c.loop-p.p =
    ap (λ (w : Window). w.start) c.window-window.ensures
    ∙ ap (λ (u : ℕ). (window_of c.args.header.now.design u).start) (c.from.ensures ∙ unit_is) in
    let here : ran.at ≡ begin_of c.args.header.now.design (length old) =
    c.in_ok-run_to.ensures.at ∙ begins ∙ ap (begin_of c.args.header.now.design) c.loop-p.invariant.place in
    let stays : c.start.new.self.at ≡ ran.at = ap (λ (p : Pass). p.at) c.in_ok-start.ensures.window in
    record {
      place = omega (
        arith,
        c.loop-p.invariant.place,
        ap (λ (ps : List LivePoint). length ps) c.in_ok-push.ensures.items,
        length_push old c.in_ok-start.field-0,
      );
      at = omega (arith, stays, c.in_ok-run_to.ensures.at, c.if-window-end.false);
      ended = ap (λ (p : Pass). p.windows.ended) c.in_ok-start.ensures.window ∙ c.in_ok-run_to.ensures.ended ∙ c.loop-p.invariant.ended;
      way = λ start can before.
          let was = c.loop-p.invariant.way start can before in
          let on = collecting_on start c.args.header.now c.loop-p.pass ran old (c.in_ok-run_to.ensures.passing _ _ _ was.passing)
          c.in_ok-run_to.ensures.count c.in_ok-run_to.ensures.ended (λ h. omega (arith, here)) was in
          subst (λ (ps : List LivePoint). IsCollecting start c.args.header.now c.start.new.self ps) (sym c.in_ok-push.ensures.items)
          (collecting_start start c.args.header.now ran c.start.new.self old c.in_ok-start.field-0 c.unit_at-unit.result
          c.in_ok-start.ensures.window (omega (arith, c.loop-p.invariant.place))
          (unit_is ∙ ap (sampled_unit c.args.header.now.design) c.loop-p.invariant.place) here c.in_ok-start.ensures.point c.in_ok-start.ensures.fields on);
    }

use Rattle.std.proofs.Common.{◌≡◌, ◌<◌, ◌≤◌, ◌+◌, ◌∙◌, ℕ, List, length, sym, ap, subst, arith}
use Rattle.std.specs.Prelude.{slice_index_or, slice_set}
use Rattle.live_points.specs.declared.header.Header.{Header}
use Rattle.live_points.specs.declared.point.LivePoint.{LivePoint}
use Rattle.live_points.specs.Points.{point_of}
use Rattle.rv_exec.specs.Machine.{State}
use Rattle.rv_machine.specs.Start.{start_of}
use Rattle.sample_design.specs.declared.units.Window.{Window}
use Rattle.sample_design.specs.Units.{sampled_unit, window_of, end_of}
use Rattle.warming.specs.declared.pass.Pass.{Pass}
use Rattle.warming.specs.Collecting.{IsCollecting, begin_of, with_words}
use Rattle.warming.proofs.CollectingLemmas.{all_collected, can_run, collecting_end, collecting_none, collecting_on, end_at, ends_rise, fields_with, has_started, own_default, small_unit}
use Rattle.warming.proofs.collecting.collect.Goals as goal

pub loop-p-init : goal.loop-p-init
loop-p-init c = record {
  ended = ap (λ v. v.ended) c.in_ok-pass.ensures.none;
  at = λ h. omega (arith, c.in_ok-pass.ensures.at);
  way = subst (λ (ps : List LivePoint). IsCollecting (start_of c.args.image.now) c.args.header.now c.in_ok-pass.pass ps) (sym c.new-points.ensures.items)
      (collecting_none (start_of c.args.image.now) c.args.header.now c.in_ok-pass.pass
      (c.in_ok-pass.ensures.passing (begin_of c.args.header.now.design)) c.in_ok-pass.ensures.at c.in_ok-pass.ensures.none);
}

pub unit_at-requires-clause-fits : goal.unit_at-requires-clause-fits
unit_at-requires-clause-fits c = small_unit (start_of c.args.image.now) c.args.header.now c.loop-p.p c.requires c.loop-p-test.true

pub start_until-requires-clause-at : goal.start_until-requires-clause-at
start_until-requires-clause-at c =
    let ends =
    end_at c.args.header.now.design c.loop-p.p c.from.result c.window-window.result.start c.from-in-loop-p.result (c.from.ensures ∙ c.unit_at.ensures)
    (ap (λ (w : Window). w.start) c.window-window.ensures) (c.from-in-loop-p.ensures ∙ ap (λ (w : Window). w.len) c.window-window.ensures) in
    omega (arith, ends, c.loop-p.invariant.at c.loop-p-test.true)

pub start_until-requires-clause-end : goal.start_until-requires-clause-end
start_until-requires-clause-end c =
    let ends =
    end_at c.args.header.now.design c.loop-p.p c.from.result c.window-window.result.start c.from-in-loop-p.result (c.from.ensures ∙ c.unit_at.ensures)
    (ap (λ (w : Window). w.start) c.window-window.ensures) (c.from-in-loop-p.ensures ∙ ap (λ (w : Window). w.len) c.window-window.ensures) in
    omega (arith, ends, c.requires.units c.loop-p.p c.loop-p-test.true)

pub run_to-requires-clause-run : goal.run_to-requires-clause-run
run_to-requires-clause-run c =
    let ends =
    end_at c.args.header.now.design c.loop-p.p c.from.result c.window-window.result.start c.from-in-loop-p.result (c.from.ensures ∙ c.unit_at.ensures)
    (ap (λ (w : Window). w.start) c.window-window.ensures) (c.from-in-loop-p.ensures ∙ ap (λ (w : Window). w.len) c.window-window.ensures) in
    can_run (start_of c.args.image.now) c.args.header.now c.start_until.new.pass c.start_until.new.points.items _ c.requires
    (c.in_ok-start_until.ensures.way (start_of c.args.image.now) c.requires c.loop-p.invariant.way)
    (omega (arith, ends, c.requires.units c.loop-p.p c.loop-p-test.true))

pub end-requires : goal.end-requires
end-requires c =
    let ends =
    end_at c.args.header.now.design c.loop-p.p c.from.result c.window-window.result.start c.from-in-loop-p.result (c.from.ensures ∙ c.unit_at.ensures)
    (ap (λ (w : Window). w.start) c.window-window.ensures) (c.from-in-loop-p.ensures ∙ ap (λ (w : Window). w.len) c.window-window.ensures) in
    let start : State = start_of c.args.image.now in
    let header : Header = c.args.header.now in
    let points : List LivePoint = c.start_until.new.points.items in
    let way = c.in_ok-start_until.ensures.way start c.requires c.loop-p.invariant.way in
    let ended = c.in_ok-start_until.ensures.ended ∙ c.loop-p.invariant.ended in
    let started = has_started start header c.start_until.new.pass points c.loop-p.p c.requires way c.loop-p-test.true ended
    (λ h. omega (arith, ends, c.in_ok-start_until.ensures.all h)) in
    omega (arith, c.in_ok-run_to.ensures.ended, ended, c.in_ok-run_to.ensures.count, way.count, started)

pub put_words-requires : goal.put_words-requires
put_words-requires c =
    let ends =
    end_at c.args.header.now.design c.loop-p.p c.from.result c.window-window.result.start c.from-in-loop-p.result (c.from.ensures ∙ c.unit_at.ensures)
    (ap (λ (w : Window). w.start) c.window-window.ensures) (c.from-in-loop-p.ensures ∙ ap (λ (w : Window). w.len) c.window-window.ensures) in
    let start : State = start_of c.args.image.now in
    let header : Header = c.args.header.now in
    let points : List LivePoint = c.start_until.new.points.items in
    let way = c.in_ok-start_until.ensures.way start c.requires c.loop-p.invariant.way in
    let ended = c.in_ok-start_until.ensures.ended ∙ c.loop-p.invariant.ended in
    let started = has_started start header c.start_until.new.pass points c.loop-p.p c.requires way c.loop-p-test.true ended
    (λ h. omega (arith, ends, c.in_ok-start_until.ensures.all h)) in
    started

pub loop-p-preserved : goal.loop-p-preserved
loop-p-preserved c =
    let ends =
    end_at c.args.header.now.design c.loop-p.p c.from.result c.window-window.result.start c.from-in-loop-p.result (c.from.ensures ∙ c.unit_at.ensures)
    (ap (λ (w : Window). w.start) c.window-window.ensures) (c.from-in-loop-p.ensures ∙ ap (λ (w : Window). w.len) c.window-window.ensures) in
    let start : State = start_of c.args.image.now in
    let header : Header = c.args.header.now in
    let points : List LivePoint = c.start_until.new.points.items in
    let way = c.in_ok-start_until.ensures.way start c.requires c.loop-p.invariant.way in
    let ended = c.in_ok-start_until.ensures.ended ∙ c.loop-p.invariant.ended in
    let started = has_started start header c.start_until.new.pass points c.loop-p.p c.requires way c.loop-p-test.true ended
    (λ h. omega (arith, ends, c.in_ok-start_until.ensures.all h)) in
    let there = collecting_on start header c.start_until.new.pass c.run_to.new.self points
    (c.in_ok-run_to.ensures.passing _ _ _ way.passing) c.in_ok-run_to.ensures.count c.in_ok-run_to.ensures.ended
    (λ h. omega (arith, c.in_ok-run_to.ensures.at, c.in_ok-start_until.ensures.all h)) way in
    let at_end = c.in_ok-run_to.ensures.at ∙ ends in
    let ended_there = c.in_ok-run_to.ensures.ended ∙ ended in
    let begun : LivePoint = slice_index_or points c.loop-p.p (point_of header start 0) in
    let own : begun ≡ slice_index_or points c.loop-p.p begun = own_default points c.loop-p.p (point_of header start 0) started in
    let here : c.end.new.self.at ≡ c.run_to.new.self.at = ap (λ (p : Pass). p.at) c.in_ok-words.ensures.window in
    record {
      ended = omega (arith, ap (λ (p : Pass). p.windows.ended) c.in_ok-words.ensures.window, ended_there);
      at = λ h. omega (arith, here, at_end, ends_rise header.design c.loop-p.p);
      way = subst (λ (ps : List LivePoint). IsCollecting start header c.end.new.self ps) (sym (c.put_words.ensures begun own))
          (collecting_end start header c.run_to.new.self c.end.new.self points begun c.in_ok-words.words c.loop-p.p
          c.in_ok-words.ensures.window (sym ended_there) started at_end c.in_ok-words.ensures.words own
          (fields_with begun c.in_ok-words.words c.in_ok-words.ensures.are
          (there.fields c.loop-p.p (point_of header start 0) started))
          there);
    }

pub returns-clause-points : goal.returns-clause-points
returns-clause-points c =
    all_collected (start_of c.args.image.now) c.args.header.now c.loop-p.pass c.loop-p.points.items c.loop-p.invariant.way
    (omega (arith, c.loop-p.invariant.ended))

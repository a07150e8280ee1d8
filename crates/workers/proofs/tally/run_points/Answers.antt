use Rattle.std.proofs.Common.{rules, ◌+◌, ◌-◌, min, length, map, take, drop, arith, sym, ap, subst, ◌∙◌}
use Rattle.std.proofs.lemmas.List.{length-map, length-take-le, length-drop}
use Rattle.std.proofs.lemmas.List.Elements.{All-take, All-drop}
use Rattle.confidence.proofs.Lists.{sums_of-nothing}
use Rattle.ordered_fold.specs.Front.{first_front, is_going}
use Rattle.workers.specs.Crew.{IsBatchRun}
use Rattle.workers.proofs.TallyLemmas.{IsSoFar, so_far_none, so_far_more, answers_cut, tally_read, points_left}
use Rattle.workers.proofs.tally.run_points.Goals as goal

pub loop-alloc-init : goal.loop-alloc-init
loop-alloc-init g c = record {
  crew = c.new-crew.ensures.crew;
  long = search rules;
  alike = search rules;
  within = omega arith;
  going = λ e. ap (λ f. f.sums.n) c.new-crew.ensures.front ∙ sums_of-nothing;
  total = ap (λ f. f.total) c.new-crew.ensures.front;
  so_far = λ u alike. so_far_none c.args.test (map (g.S.Simulator.answer u) c.args.points.now) (length c.args.simulators.items)
      c.new-crew.result.front c.new-crew.result.windows
      (c.new-crew.ensures.front ∙ ap (λ n. first_front n c.args.test) (sym (length-map c.args.points.now (g.S.Simulator.answer u)))) c.new-crew.ensures.windows;
}

pub batch_end-end-requires-clause-first : goal.batch_end-end-requires-clause-first
batch_end-end-requires-clause-first g c =
    (points_left c.loop-alloc.crew.front c.front.result c.is_going.result c.loop-alloc.crew.windows (length c.loop-alloc.crew.simulators.items)
    c.loop-alloc.first (length c.args.points.now) c.loop-alloc.invariant.crew c.loop-alloc.invariant.going c.loop-alloc.invariant.total
    c.front.ensures c.is_going.ensures c.loop-alloc-test.true).1

pub offset_bounds-points-first : goal.offset_bounds-points-first
offset_bounds-points-first g c = c.loop-alloc.invariant.within

pub slice_bounds-run_batch-count : goal.slice_bounds-run_batch-count
slice_bounds-run_batch-count g c = omega (arith, c.loop-alloc.invariant.within, c.batch_end-end.ensures)

pub slice_bounds-run_batch-start : goal.slice_bounds-run_batch-start
slice_bounds-run_batch-start g c = search (rules, c.loop-alloc.invariant.within, c.batch_end-end.ensures)

pub run_batch-requires-clause-points : goal.run_batch-requires-clause-points
run_batch-requires-clause-points g c = λ κs within.
    let left = points_left c.loop-alloc.crew.front c.front.result c.is_going.result c.loop-alloc.crew.windows (length c.loop-alloc.crew.simulators.items)
    c.loop-alloc.first (length c.args.points.now) c.loop-alloc.invariant.crew c.loop-alloc.invariant.going c.loop-alloc.invariant.total
    c.front.ensures c.is_going.ensures c.loop-alloc-test.true in
    let number = c.loop-alloc.invariant.going left.0 in
    let rest = length-drop c.loop-alloc.first c.args.points.now in
    let long = length-take-le (c.batch_end-end.result - c.loop-alloc.first) (drop c.loop-alloc.first c.args.points.now) (omega (arith, rest, left.1, c.batch_end-end.ensures)) in
    (omega (arith, long, left.1, c.batch_end-end.ensures), omega (arith, long, number, left.1, c.batch_end-end.ensures, c.loop-alloc.invariant.total))

pub run_batch-requires-clause-takes : goal.run_batch-requires-clause-takes
run_batch-requires-clause-takes g c κs within =
    let is = c.requires.takes in
    (is.0, c.loop-alloc.invariant.alike is.0 is.1, All-take (g.S.Simulator.takes is.0) _ _ (All-drop (g.S.Simulator.takes is.0) c.loop-alloc.first _ is.2))

pub loop-alloc-smaller : goal.loop-alloc-smaller
loop-alloc-smaller g c =
    let left = points_left c.loop-alloc.crew.front c.front.result c.is_going.result c.loop-alloc.crew.windows (length c.loop-alloc.crew.simulators.items)
    c.loop-alloc.first (length c.args.points.now) c.loop-alloc.invariant.crew c.loop-alloc.invariant.going c.loop-alloc.invariant.total
    c.front.ensures c.is_going.ensures c.loop-alloc-test.true in
    search (rules, left.1, c.batch_end-end.ensures)

pub loop-alloc-preserved : goal.loop-alloc-preserved
loop-alloc-preserved g c =
    let was = c.loop-alloc.invariant in
    let left = points_left c.loop-alloc.crew.front c.front.result c.is_going.result c.loop-alloc.crew.windows (length c.loop-alloc.crew.simulators.items)
    c.loop-alloc.first (length c.args.points.now) was.crew was.going was.total c.front.ensures c.is_going.ensures c.loop-alloc-test.true in
    let one = c.in_ok-run_batch.ensures.run c.requires.takes.0 (was.alike c.requires.takes.0 c.requires.takes.1) in
    let rest = length-drop c.loop-alloc.first c.args.points.now in
    let long = length-take-le (c.batch_end-end.result - c.loop-alloc.first) (drop c.loop-alloc.first c.args.points.now) (omega (arith, rest, left.1, c.batch_end-end.ensures)) in
    let answers = length-map (take (c.batch_end-end.result - c.loop-alloc.first) (drop c.loop-alloc.first c.args.points.now)) (g.S.Simulator.answer c.requires.takes.0) in
    record {
      crew = c.run_batch.ensures.crew;
      long = c.run_batch.ensures.long ∙ was.long;
      alike = λ u alike. c.run_batch.ensures.alike u (was.alike u alike);
      within = omega (arith, c.batch_end-end.ensures);
      going = λ e. omega (arith, one.2.going e, was.going left.0, answers, long, left.1, c.batch_end-end.ensures);
      total = one.2.total ∙ was.total;
      so_far = λ u alike.
          let run = c.in_ok-run_batch.ensures.run u (was.alike u alike) in
          subst (IsSoFar c.args.test (map (g.S.Simulator.answer u) c.args.points.now) (length c.args.simulators.items) c.batch_end-end.result c.run_batch.new.self.front) (sym run.1)
          (so_far_more c.args.test (map (g.S.Simulator.answer u) c.args.points.now) (map (g.S.Simulator.answer u) (take (c.batch_end-end.result - c.loop-alloc.first) (drop c.loop-alloc.first c.args.points.now)))
          (length c.args.simulators.items) c.loop-alloc.first c.batch_end-end.result c.loop-alloc.crew.front c.run_batch.new.self.front c.loop-alloc.crew.windows run.0
          (was.so_far u alike) left.0 (omega (arith, left.1, length-map c.args.points.now (g.S.Simulator.answer u)))
          (c.batch_end-end.ensures ∙ ap (min (c.loop-alloc.first + 128)) (sym (length-map c.args.points.now (g.S.Simulator.answer u))))
          (answers_cut (g.S.Simulator.answer u) c.args.points.now c.loop-alloc.first (c.batch_end-end.result - c.loop-alloc.first))
          (subst (λ n. IsBatchRun (map (g.S.Simulator.answer u) (take (c.batch_end-end.result - c.loop-alloc.first) (drop c.loop-alloc.first c.args.points.now))) n c.loop-alloc.crew.front c.run_batch.new.self.front run.0) was.long run.2));
    }

pub returns : goal.returns
returns g c = record {
  tally = λ u alike. tally_read c.args.test (map (g.S.Simulator.answer u) c.args.points.now) (length c.args.simulators.items) c.loop-alloc.first
      c.loop-alloc.crew.front c.loop-alloc.crew.windows c.ending.result c.sums.result c.windows.result (c.loop-alloc.invariant.so_far u alike)
      (ap (λ f. is_going f.ending) (sym c.front.ensures) ∙ sym c.is_going.ensures ∙ c.loop-alloc-test.false)
      (c.ending.ensures ∙ ap (λ f. f.ending) c.front-2.ensures) (c.sums.ensures ∙ ap (λ f. f.sums) c.front-3.ensures) c.windows.ensures;
}

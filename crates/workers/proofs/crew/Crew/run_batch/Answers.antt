use Rattle.std.proofs.Common.{rules, ◌+◌, length, map, refl, arith, sym, subst}
use Rattle.std.proofs.lemmas.List.{length-map}
use Rattle.workers.specs.Crew.{IsCrew}
use Rattle.workers.proofs.CrewLemmas.{lists_are, crew_after}
use Rattle.workers.proofs.crew.Crew.run_batch.Goals as goal

pub fold_batch-requires-clause-list : goal.fold_batch-requires-clause-list
fold_batch-requires-clause-list g c κs within =
    let is = c.requires.takes in
    (is.0, is.1, is.2, lists_are g.S.Simulator.setup g.S.Simulator.answer is.0 c.args.self.now.simulators.items c.args.points.now c.requires.crew.some is.1)

pub overflow_add-self : goal.overflow_add-self
overflow_add-self g c =
    let is = c.requires.takes in
    let run = c.in_ok-front.ensures.run (map (g.S.Simulator.answer is.0) c.args.points.now)
    (lists_are g.S.Simulator.setup g.S.Simulator.answer is.0 c.args.self.now.simulators.items c.args.points.now c.requires.crew.some is.1) in
    search (rules, run.most, length-map c.args.points.now (g.S.Simulator.answer is.0), c.requires.crew.going c.requires.going, c.requires.crew.sound.total)

pub returns-clause-crew : goal.returns-clause-crew
returns-clause-crew g c =
    let is = c.requires.takes in
    let long = length-map c.args.points.now (g.S.Simulator.answer is.0) in
    let run = c.in_ok-front.ensures.run (map (g.S.Simulator.answer is.0) c.args.points.now)
    (lists_are g.S.Simulator.setup g.S.Simulator.answer is.0 c.args.self.now.simulators.items c.args.points.now c.requires.crew.some is.1) in
    subst (IsCrew c.in_ok-front.front (c.args.self.now.windows + c.in_ok-front.windows)) (sym c.in_ok-front.ensures.long)
    (crew_after (map (g.S.Simulator.answer is.0) c.args.points.now) c.args.self.now.front c.in_ok-front.front c.args.self.now.windows
    c.in_ok-front.windows (length c.args.self.now.simulators.items) c.requires.crew c.requires.going (omega (arith, long, c.requires.points.1)) run)

pub returns-clause-run : goal.returns-clause-run
returns-clause-run g c = λ u alike. (
  c.in_ok-front.windows,
  refl,
  c.in_ok-front.ensures.run (map (g.S.Simulator.answer u) c.args.points.now)
      (lists_are g.S.Simulator.setup g.S.Simulator.answer u c.args.self.now.simulators.items c.args.points.now c.requires.crew.some alike),
)

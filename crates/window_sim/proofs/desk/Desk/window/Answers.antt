use Rattle.window_sim.proofs.AnswersLemmas.{unit_answered}
use Rattle.window_sim.proofs.desk.Desk.window.Goals as goal

pub returns-clause-unit : goal.returns-clause-unit
returns-clause-unit c = λ start length unit of.
    unit_answered c.args.self.now c.args.point.now _ start length unit (rw (← c.self.view_is) c.self.invariant.served)
    (rw (← c.self.view_is) c.window_on.ensures.answer) of

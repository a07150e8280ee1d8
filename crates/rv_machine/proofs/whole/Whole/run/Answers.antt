use Rattle.std.proofs.Common.{arith, ap, sym, ◌∙◌}
use Rattle.rv_machine.specs.Machine.{Machine}
use Rattle.rv_machine.proofs.UnderWayLemmas.{at_start, advanced, goes_on, exits, traps, is_spent}
use Rattle.rv_machine.proofs.HaltedLemmas.{stays_exited, stays_trapped}
use Rattle.rv_machine.proofs.OutcomeLemmas.{same_outcome}
use Rattle.rv_machine.proofs.whole.Whole.run.Goals as goal

pub loop-at-init : goal.loop-at-init
loop-at-init c = at_start c.args.self.now c.requires

pub returns-in-Err-Trap-clause-outcome : goal.returns-in-Err-Trap-clause-outcome
returns-in-Err-Trap-clause-outcome c =
    let step = rw c.in-Err-Trap.field-0-is at c.in-Err-Trap.ensures.advances in
    rw c.in-Err-Trap.field-0-is
    (traps c.args.self.now c.loop-at.self c.advance_watched.new.self c.args.budget c.loop-at.at
    c.in-Err-Trap.trap c.loop-at.invariant c.loop-at-test.true step)

pub returns-in-Err-Trap-clause-ends : goal.returns-in-Err-Trap-clause-ends
returns-in-Err-Trap-clause-ends c = same_outcome _ _ _ (returns-in-Err-Trap-clause-outcome c)

pub returns-in-Err-Trap-clause-machine : goal.returns-in-Err-Trap-clause-machine
returns-in-Err-Trap-clause-machine c =
    let step = rw c.in-Err-Trap.field-0-is at c.in-Err-Trap.ensures.advances in
    step.2
    ∙ stays_trapped c.args.self.now c.loop-at.self c.loop-at.at c.args.budget
    c.in-Err-Trap.trap.kind c.loop-at.invariant (omega arith) step.0

pub returns-in-Some-clause-outcome : goal.returns-in-Some-clause-outcome
returns-in-Some-clause-outcome c =
    let exit = ap (λ (m : Machine). m.state.exit) (sym c.self.view_is) ∙ c.in-Some.is in
    exits c.args.self.now c.loop-at.self c.advance_watched.new.self c.args.budget c.loop-at.at
    c.in-Some.code c.in-Ok.ensures.advances.event c.loop-at.invariant c.loop-at-test.true
    c.in-Ok.ensures.advances.advances exit

pub returns-in-Some-clause-ends : goal.returns-in-Some-clause-ends
returns-in-Some-clause-ends c = same_outcome _ _ _ (returns-in-Some-clause-outcome c)

pub returns-in-Some-clause-machine : goal.returns-in-Some-clause-machine
returns-in-Some-clause-machine c =
    let exit = ap (λ (m : Machine). m.state.exit) (sym c.self.view_is) ∙ c.in-Some.is in
    stays_exited c.args.self.now c.advance_watched.new.self _ c.args.budget c.in-Some.code
    (advanced c.args.self.now c.loop-at.self c.advance_watched.new.self c.loop-at.at c.in-Ok.ensures.advances.event
    c.loop-at.invariant c.in-Ok.ensures.advances.advances)
    (omega arith) exit

pub loop-at-preserved : goal.loop-at-preserved
loop-at-preserved c =
    let running = ap (λ (m : Machine). m.state.exit) (sym c.self.view_is) ∙ c.in-None.is in
    goes_on c.args.self.now c.loop-at.self c.advance_watched.new.self c.loop-at.at c.in-Ok.ensures.advances.event
    c.loop-at.invariant c.in-Ok.ensures.advances.advances running

pub returns-clause-outcome : goal.returns-clause-outcome
returns-clause-outcome c =
    is_spent c.args.self.now c.loop-at.self c.args.budget c.loop-at.at c.loop-at.invariant
    c.loop-at-test.false

pub returns-clause-ends : goal.returns-clause-ends
returns-clause-ends c = same_outcome _ _ _ (returns-clause-outcome c)

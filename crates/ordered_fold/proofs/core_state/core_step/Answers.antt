use Rattle.ordered_fold.specs.MachineView.{core_of}
use Rattle.ordered_fold.proofs.StateLemmas.{step_is_run}
use Rattle.ordered_fold.proofs.core_state.core_step.Goals as goal

pub invariant_of-state : goal.invariant_of-state
invariant_of-state c =
    rw (c.step.ensures, c.deref.ensures.value)
    (step_is_run c.state.inside.start c.state.inside.answers.items (core_of c.state.inside.machine) c.args.event c.state.invariant)

pub returns-clause-invariant : goal.returns-clause-invariant
returns-clause-invariant c = (invariant_of-state c).core

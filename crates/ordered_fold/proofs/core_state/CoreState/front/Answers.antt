use Rattle.ordered_fold.specs.MachineView.{core_of}
use Rattle.ordered_fold.proofs.StateLemmas.{front_sound}
use Rattle.ordered_fold.proofs.core_state.CoreState.front.Goals as goal

pub returns-clause-sound : goal.returns-clause-sound
returns-clause-sound c =
    front_sound c.self.inside.start c.self.inside.answers.items (core_of c.self.inside.machine) c.self.invariant

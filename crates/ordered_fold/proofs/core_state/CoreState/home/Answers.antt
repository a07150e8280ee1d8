use Rattle.ordered_fold.specs.MachineView.{core_of}
use Rattle.ordered_fold.proofs.StateLemmas.{front_sound}
use Rattle.ordered_fold.proofs.core_state.CoreState.home.Goals as goal

pub returns-then-self-eq0-clause-sound : goal.returns-then-self-eq0-clause-sound
returns-then-self-eq0-clause-sound c =
    front_sound c.self.inside.start c.self.inside.answers.items (core_of c.self.inside.machine) c.self.invariant

-- An event is well formed, since the pc of a core is a multiple of 4.
use Rattle.rv_exec.proofs.WatchLemmas.{latest_well_formed}
use Rattle.rv_exec.proofs.stepping.step_with.Goals as goal

pub returns-in-Ok-clause-well_formed : goal.returns-in-Ok-clause-well_formed
returns-in-Ok-clause-well_formed g c =
    latest_well_formed _ _ _ _ _ c.in-Ok.ensures.next c.unwrap.ensures c.args.core.now.aligned

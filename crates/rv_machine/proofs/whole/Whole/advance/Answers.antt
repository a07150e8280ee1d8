use Rattle.rv_machine.proofs.ShownLemmas.{latest_advances}
use Rattle.rv_machine.proofs.whole.Whole.advance.Goals as goal

pub returns-in-Ok-clause-advances : goal.returns-in-Ok-clause-advances
returns-in-Ok-clause-advances c =
    (latest_advances _ _ _ _ c.in-Ok.ensures.advances c.unwrap.ensures).0

pub returns-in-Ok-clause-well_formed : goal.returns-in-Ok-clause-well_formed
returns-in-Ok-clause-well_formed c =
    (latest_advances _ _ _ _ c.in-Ok.ensures.advances c.unwrap.ensures).1

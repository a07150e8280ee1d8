use Rattle.turbosmarts.proofs.TellingLemmas.{tells}
use Rattle.turbosmarts.proofs.telling.tell.Goals as goal

pub returns : goal.returns
returns g c =
    let wrote = c.write_all.ensures in
    tells _ _ _ _ _ _ wrote.ok wrote.front wrote.short wrote.cause

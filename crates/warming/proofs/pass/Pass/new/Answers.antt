use Rattle.std.proofs.Common.{◌≡◌, ap, refl}
use Rattle.rv_machine.specs.Machine.{Machine}
use Rattle.warming.proofs.PassingLemmas.{passing_none}
use Rattle.warming.proofs.pass.Pass.new.Goals as goal

pub returns-clause-passing : goal.returns-clause-passing
returns-clause-passing c = λ begins.
    passing_none _ c.args.records.now begins _ refl (ap (λ (m : Machine). m.state) c.in_ok-new.ensures) c.in_ok-new-2.ensures c.new-3.ensures

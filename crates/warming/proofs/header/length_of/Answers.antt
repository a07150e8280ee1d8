use Rattle.std.proofs.Common.{◌≡◌, ◌∙◌, ap, sym}
use Rattle.rv_exec.specs.Machine.{State}
use Rattle.rv_machine.specs.Machine.{Machine}
use Rattle.rv_machine.specs.Outcome.{outcome_of}
use Rattle.warming.proofs.WarmingLemmas.{ends_of, not_exited}
use Rattle.warming.proofs.header.length_of.Goals as goal

pub run-requires : goal.run-requires
run-requires c = ap (λ (m : Machine). m.state.exit) c.in_ok-whole.ensures ∙ not_exited c.args.image.now

pub returns-in-Exited-clause-goes : goal.returns-in-Exited-clause-goes
returns-in-Exited-clause-goes c =
    let started = ap (λ (m : Machine). m.state) c.in_ok-whole.ensures in
    ends_of c.args.image.now c.args.budget c.in-Exited.code c.in-Exited.length
    (ap (λ (s : State). outcome_of s c.args.budget) (sym started) ∙ sym c.in_ok-length.ensures.outcome ∙ c.in-Exited.is)

use Rattle.std.proofs.Common.{rules, sym, ap, ◌∙◌}
use Rattle.workers.specs.Crew.{share}
use Rattle.workers.proofs.CrewLemmas.{sums_alike}
use Rattle.workers.proofs.member.run_members.Goals as goal

pub returns-clause-shares : goal.returns-clause-shares
returns-clause-shares g c =
    sums_alike (λ m. share m.pass.view) c.args.members.now c.for_each_mut.new.s (search rules) (λ i d below.
    let h = (c.for_each_mut.ensures i d below).1 in
    sym (ap (λ m. share m.pass.view) h.left) ∙ h.call.1 ∙ ap (λ m. share m.pass.view) h.argument_is)

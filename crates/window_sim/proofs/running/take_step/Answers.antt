use Rattle.std.proofs.Common.{sym, ap, ◌∙◌, Err}
use Rattle.hierarchy.proofs.TraceLemmas.{traces_exit, traces_trap}
use Rattle.window_sim.specs.Marks.{or_fault}
use Rattle.window_sim.proofs.BuiltLemmas.{built_after}
use Rattle.window_sim.proofs.running.take_step.Goals as goal

pub returns-in-Some-clause-fault : goal.returns-in-Some-clause-fault
returns-in-Some-clause-fault g c = λ first start n len marks before below.
    ap or_fault (traces_exit _ first _ start _ n len marks c.in-Some._code before c.in-Some.is below)

pub returns-in-Ok-clause-built : goal.returns-in-Ok-clause-built
returns-in-Ok-clause-built g c =
    rw c.annotate.ensures.state (built_after c.args.config.now c.args.warm.now c.in-Ok.event c.requires.built)

pub returns-in-Ok-clause-annotated : goal.returns-in-Ok-clause-annotated
returns-in-Ok-clause-annotated g c = λ first start n marks before.
    c.annotate.ensures.annotated first start _ _ n marks before c.in_default.is c.in-Ok.ensures.next

pub returns-in-Err-clause-fault : goal.returns-in-Err-clause-fault
returns-in-Err-clause-fault g c = λ first start n len marks before below.
    let stops = c.in-Err.ensures.next in
    ap or_fault (traces_trap _ first _ start _ n len marks c.in-Err.trap.kind before c.in_default.is stops.0 below)
    ∙ (λ i. Err (record { kind = sym c.kind_of.ensures i; pc = sym stops.1 i }))

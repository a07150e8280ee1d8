use Rattle.std.proofs.Common.{◌∙◌, ap}
use Rattle.hierarchy.specs.declared.state.State.{State}
use Rattle.hierarchy.specs.State.{after_event}
use Rattle.hierarchy.proofs.TraceLemmas.{annotated_more}
use Rattle.hierarchy.proofs.WarmingLemmas.{warmed_more}
use Rattle.hierarchy.proofs.state.State.annotate.Goals as goal

pub returns-clause-warmed : goal.returns-clause-warmed
returns-clause-warmed c = λ g kind events h.
    c.mark.ensures.state
    ∙ ap (λ (s : State). after_event s c.args.event.now) h
    ∙ warmed_more g kind events c.args.event.now

pub returns-clause-annotated : goal.returns-clause-annotated
returns-clause-annotated c = λ first start now after n ms h exit is.
    rw (c.mark.ensures.mark, c.mark.ensures.state)
    (annotated_more _ first _ start now after n ms c.args.event.now h exit is)
